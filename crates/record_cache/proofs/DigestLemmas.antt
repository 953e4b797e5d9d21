-- Entries that are found by digests, and the same without these (this project's own)
use Rattle.std.proofs.Common.{◌≡◌, ◌∙◌, ◌-◌, ◌≤◌, true, false, cond, List, [], ◌∷◌, length, map, take, Option, None, Some, refl, sym, ap, subst}
use Rattle.std.specs.Cmp.{both_ways}
use Rattle.std.specs.List.{list_any}
use Rattle.std.specs.Map.{lookup, remove_entry}
use Rattle.std.specs.Option.{IsSome, is_some}
use Rattle.std.proofs.lemmas.List.{take-map}
use Rattle.lru.specs.LruCache.{LruCache, lru_cache, promoted, put_entries}
use Rattle.z_types.specs.declared.records.Item.{Item}
use Rattle.record_cache.specs.declared.digests.Digested.{Digested}
use Rattle.record_cache.specs.declared.keys.RecordKey.{RecordKey}
use Rattle.record_cache.specs.declared.seed.Seed.{Seed}
use Rattle.record_cache.specs.contracts.digests.DigestedEq.TheImpl.Laws as digested_law
use Rattle.record_cache.specs.contracts.keys.RecordKeyEq.TheImpl.Laws as key_law
use Rattle.record_cache.specs.Digests.{digest_of, digested, plain_entry, same_digested}
use Rattle.record_cache.specs.Entries.{same_key}
use Rattle.record_cache.specs.Views.{HaveDigests}
use Rattle.record_cache.proofs.EntryLemmas.{all_first, all_left, is_key, promoted_found, put_is_kept}

is_digested : (x y : Digested) → same_digested x y ≡ true → x ≡ y
is_digested x y h = digested.eq_is_exact x y h

-- two are one exactly where their keys are
one_test : (seed : Seed) (q e : Digested) → q.digest ≡ digest_of seed q.key → e.digest ≡ digest_of seed e.key
    → same_digested q e ≡ same_key q.key e.key
one_test seed q e of_q of_e =
    both_ways (same_digested q e) (same_key q.key e.key)
    (λ h. ap (λ (d : Digested). same_key q.key d.key) (sym (is_digested q e h)) ∙ key_law.laws-law.refl q.key)
    (λ h.
    let one : q.key ≡ e.key = is_key q.key e.key h in
    let digests : q.digest ≡ e.digest = of_q ∙ ap (digest_of seed) one ∙ sym of_e in
    let both : q ≡ e = (λ i. record { digest = digests i; key = one i }) in
    ap (same_digested q) (sym both) ∙ digested_law.laws-law.refl q)

module _ (seed : Seed) (q : Digested) (of_q : q.digest ≡ digest_of seed q.key) where
  -- the same is found
  pub lookup_plain : (es : List (Digested × Item)) → HaveDigests seed es → lookup (same_digested q) es ≡ lookup (same_key q.key) (map plain_entry es)
  lookup_plain [] a = refl
  lookup_plain (e ∷ es) a =
      ap (λ b. cond b (Some e.1) (lookup (same_digested q) es)) (one_test seed q e.0 of_q a.0)
      ∙ ap (λ o. cond (same_key q.key e.0.key) (Some e.1) o) (lookup_plain es a.1)

  -- and the same goes
  pub removed_plain : (es : List (Digested × Item)) → HaveDigests seed es
      → map plain_entry (remove_entry (same_digested q) es) ≡ remove_entry (same_key q.key) (map plain_entry es)
  removed_plain [] a = refl
  removed_plain (e ∷ es) a =
      let test = one_test seed q e.0 of_q a.0 in
      (elim (same_key q.key e.0.key) as (λ b. same_key q.key e.0.key ≡ b
      → map plain_entry (remove_entry (same_digested q) (e ∷ es)) ≡ remove_entry (same_key q.key) (map plain_entry (e ∷ es))) [
        | true ↦ λ t. let s : same_digested q e.0 ≡ true = test ∙ t in rw (s, t) refl
        | false ↦ λ t. let s : same_digested q e.0 ≡ false = test ∙ t in rw (s, t) (ap (λ r. plain_entry e ∷ r) (removed_plain es a.1))
      ]) refl

  module _ (item : Item) (c d : LruCache Digested Item) (a : HaveDigests seed c.entries) where
    -- the entries behind a find
    pub found_plain : d ≡ lru_cache (promoted (same_digested q) c.entries) c.cap → lookup (same_digested q) c.entries ≡ Some item
        → map plain_entry d.entries ≡ (q.key, item) ∷ remove_entry (same_key q.key) (map plain_entry c.entries)
    found_plain e h =
        ap (λ (x : LruCache Digested Item). map plain_entry x.entries) e
        ∙ ap (map plain_entry) (promoted_found same_digested is_digested q c.entries item h)
        ∙ ap (λ es. (q.key, item) ∷ es) (removed_plain c.entries a)

    pub found_digested : d ≡ lru_cache (promoted (same_digested q) c.entries) c.cap → lookup (same_digested q) c.entries ≡ Some item
        → HaveDigests seed d.entries
    found_digested e h =
        subst (λ (x : LruCache Digested Item). HaveDigests seed x.entries) (sym e)
        (subst (HaveDigests seed) (sym (promoted_found same_digested is_digested q c.entries item h))
        (of_q, all_left (same_digested q) (λ e. e.0.digest ≡ digest_of seed e.0.key) c.entries a))

    -- and behind what is kept
    pub kept_plain : d ≡ lru_cache (put_entries same_digested c q item) c.cap → length c.entries ≤ c.cap
        → map plain_entry d.entries ≡ (q.key, item) ∷ take (c.cap - 1) (remove_entry (same_key q.key) (map plain_entry c.entries))
    kept_plain e few =
        ap (λ (x : LruCache Digested Item). map plain_entry x.entries) e
        ∙ ap (map plain_entry) (put_is_kept same_digested is_digested q item c few)
        ∙ ap (λ es. (q.key, item) ∷ es)
        (sym (take-map plain_entry (c.cap - 1) (remove_entry (same_digested q) c.entries)) ∙ ap (take (c.cap - 1)) (removed_plain c.entries a))

    pub kept_digested : d ≡ lru_cache (put_entries same_digested c q item) c.cap → length c.entries ≤ c.cap → HaveDigests seed d.entries
    kept_digested e few =
        subst (λ (x : LruCache Digested Item). HaveDigests seed x.entries) (sym e)
        (subst (HaveDigests seed) (sym (put_is_kept same_digested is_digested q item c few)) (
          of_q,
          all_first (λ e. e.0.digest ≡ digest_of seed e.0.key) (c.cap - 1) (remove_entry (same_digested q) c.entries)
              (all_left (same_digested q) (λ e. e.0.digest ≡ digest_of seed e.0.key) c.entries a),
        ))

is_none : (o : Option Item) → is_some o ≡ false → o ≡ None
is_none None h = refl
is_none (Some item) h = cc

-- a key has an entry exactly where it has an item
pub holds_some : (key : RecordKey) (es : List (Digested × Item))
    → list_any (λ (e : Digested × Item). same_key key e.0.key) es ≡ is_some (lookup (same_key key) (map plain_entry es))
holds_some key [] = refl
holds_some key (e ∷ es) =
    (elim (same_key key e.0.key) as (λ b. same_key key e.0.key ≡ b
    → list_any (λ (e : Digested × Item). same_key key e.0.key) (e ∷ es) ≡ is_some (lookup (same_key key) (map plain_entry (e ∷ es)))) [
      | true ↦ λ t. rw t refl
      | false ↦ λ t. rw t (holds_some key es)
    ]) refl

pub some_held : (key : RecordKey) (es : List (Digested × Item)) → list_any (λ (e : Digested × Item). same_key key e.0.key) es ≡ true
    → IsSome (lookup (same_key key) (map plain_entry es))
some_held key es h = sym (holds_some key es) ∙ h

pub none_held : (key : RecordKey) (es : List (Digested × Item)) → list_any (λ (e : Digested × Item). same_key key e.0.key) es ≡ false
    → lookup (same_key key) (map plain_entry es) ≡ None
none_held key es h = is_none (lookup (same_key key) (map plain_entry es)) (sym (holds_some key es) ∙ h)
