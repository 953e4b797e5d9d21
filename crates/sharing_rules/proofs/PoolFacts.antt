-- A plain pool behind one search at the moment 0, and what is taken of it later, by computation. A session is a number.
use Rattle.std.specs.Prelude.{◌≡◌, ℕ, true, false, List, [], ◌∷◌, Some, None, refl}
use Rattle.z_types.specs.declared.address.Address.{Address}
use Rattle.z_types.specs.declared.address.Address.TheVariants.{Test}
use Rattle.z_types.specs.declared.key.SetKey.{SetKey}
use Rattle.route_config.specs.Smallest.{smallest_route}
use Rattle.pool_sets.specs.PoolLaws.{is_reuse}
use Rattle.pool_sets.specs.Table.{after_record, empty_table}
use Rattle.pool_sets.specs.Plain.{Pool, take_of, put}
use Rattle.sharing_rules.proofs.TakeUses.{asks_dial}
use Rattle.sharing_rules.specs.steps.Shared.{pool_of}
use Rattle.z_types.specs.Tree.{Tree, leaf}
use Rattle.z_types.specs.declared.query.Term.TheVariants.{General}
use Rattle.std.specs.Prelude.{codes}

abbrev pub bib1_attributes : List ℕ
bib1_attributes = 1 ∷ 2 ∷ 840 ∷ 10003 ∷ 3 ∷ 1 ∷ []

-- a term of one letter in titles
abbrev pub title : ℕ → Tree
title letter = leaf (record { set = None; kind = 1; value = 4 } ∷ []) (General (letter ∷ []))

abbrev pub key : ℕ → SetKey
key letter = record { dbs = codes "Default" ∷ []; query = record { attr_set = bib1_attributes; root = title letter } }

abbrev pub at : List Address
at = Test 0 ∷ []

abbrev behind_search : Pool ℕ
behind_search =
    put (record { class = 0; number = 1 }) (record { session = 7; table = after_record 0 (key 97) 3 0 (empty_table 10); address = Test 0 }) 0
    (take_of 0 at None (Some (key 97)) 0 (pool_of smallest_route 0 [])).1

first_dials : asks_dial (take_of {S = ℕ} 0 at None (Some (key 97)) 0 (pool_of smallest_route 0 [])).0 ≡ true
first_dials = refl

reused_at_59 : is_reuse (take_of 0 at None (Some (key 97)) 59 behind_search).0 ≡ true
reused_at_59 = refl

not_reused_at_60 : is_reuse (take_of 0 at None (Some (key 97)) 60 behind_search).0 ≡ false
not_reused_at_60 = refl

no_other_key : is_reuse (take_of 0 at None (Some (key 98)) 0 behind_search).0 ≡ false
no_other_key = refl

no_other_login : is_reuse (take_of 0 at (Some (97 ∷ [])) (Some (key 97)) 0 behind_search).0 ≡ false
no_other_login = refl

open_at_299 : asks_dial (take_of 0 at None None 299 behind_search).0 ≡ false
open_at_299 = refl

dials_at_300 : asks_dial (take_of 0 at None None 300 behind_search).0 ≡ true
dials_at_300 = refl
