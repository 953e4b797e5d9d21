-- What every world keeps to (this project's own)
use Rattle.std.specs.Prelude.{◌≡◌, ℕ, ◌≤◌, false, List, Option, Result, IfOk, IfErr}
use Rattle.z_types.specs.Bib1.{is_gone}
use Rattle.z_types.specs.Bounds.{most_number}
use Rattle.z_types.specs.Logins.{inner}
use Rattle.z_types.specs.declared.address.Address.{Address}
use Rattle.z_types.specs.declared.diagnostic.Diag.{Diag}
use Rattle.z_types.specs.declared.key.SetKey.{SetKey}
use Rattle.z_types.specs.declared.records.Item.{Item}

-- hits are a count that the protocol can tell
abbrev pub HitsAreCounts : (Address → SetKey → Result ℕ Diag) → Type 0
HitsAreCounts search =
    (address : Address) (key : SetKey) → IfOk (search address key) (λ hits. hits ≤ most_number)

-- a diagnostic in place of a whole present never says that the result set is gone
abbrev pub WholeIsNotGone : (Address → SetKey → ℕ → Option (List ℕ) → Option (List ℕ)
    → Result Item Diag) → Type 0
WholeIsNotGone record_at =
    (address : Address) (key : SetKey) (position : ℕ) (syntax element : Option (List ℕ)) →
    IfErr (record_at address key position syntax element) (λ diag. is_gone diag ≡ false)

-- where the answers inside a login are known, so are those by itself
abbrev pub InnerIsTold : (Address → Type 0) → Type 0
InnerIsTold told = (address : Address) → told address → told (inner address)
