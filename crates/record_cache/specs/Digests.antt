-- For contracts alone: digests of keys, and entries that are found by them (this project's own)
use Rattle.std.specs.Prelude.{◌≡◌, ℕ, Bool, true, List, ◌++◌, fold, refl}
use Rattle.std.proofs.Common.{ap}
use Rattle.std.specs.Hash as fed
use Rattle.std.specs.Hash.DefaultHasher as sip
use Rattle.std.specs.List.{list_any}
use Rattle.z_types.specs.declared.records.Item.{Item}
use Rattle.z_types.specs.equality.Parts.{Exactness, part, ◌⊗◌, made_of, number}
use Rattle.record_cache.specs.declared.digests.Digested.{Digested}
use Rattle.record_cache.specs.contracts.digests.DigestedPartialEq.TheImpl as digested_test
use Rattle.record_cache.specs.declared.keys.RecordKey.{RecordKey}
use Rattle.record_cache.specs.declared.seed.Seed.{Seed}
use Rattle.record_cache.specs.Entries.{same_key}
use Rattle.record_cache.specs.Exactly.{record_key}
use Rattle.record_cache.specs.Keys.{parts_input}
use Rattle.record_cache.specs.Seeds.{first_state}

-- what a seed makes of all parts of a key but its position
abbrev pub digest_of : Seed → RecordKey → ℕ
digest_of seed key = sip.finish (fold sip.write (first_state seed) (parts_input key))

-- whether two keys with digests are one
abbrev pub same_digested : Digested → Digested → Bool
same_digested = (digested_test.ghosts).eq

abbrev pub digested : Exactness Digested
digested = made_of
    (part (λ (d : Digested). d.digest) number ⊗ part (λ d. d.key) record_key)
    (λ (digest, key). record { digest = digest; key = key })
    (λ _. refl)

-- what a hasher is fed of a key with its digest
abbrev pub digested_input : Digested → List (List ℕ)
digested_input d = fed.u64 d.digest ++ fed.u64 d.key.position

pub same_input : (x y : Digested) → (digested_test.ghosts).eq x y ≡ true
    → digested_input x ≡ digested_input y
same_input x y h = ap digested_input (digested.eq_is_exact x y h)

-- an entry without its digest
abbrev pub plain_entry : Digested × Item → RecordKey × Item
plain_entry e = (e.0.key, e.1)

-- whether a key has an entry
abbrev pub holds : RecordKey → List (Digested × Item) → Bool
holds key entries = list_any (λ (e : Digested × Item). same_key key e.0.key) entries
