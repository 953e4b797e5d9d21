-- The detail that is printed is the one that is UTF-8
use Rattle.std.proofs.Common.{◌≡◌, ℕ, List, [], Bool, true, false, cond, refl, sym, ap}
use Rattle.std.specs.Str.{IsUtf8, is_utf8}
use Rattle.std.proofs.lemmas.Str.{is_utf8-from_IsUtf8, IsUtf8-from_is_utf8}
use Rattle.cql_map.specs.Sentences.{printed_detail}

-- a detail that is UTF-8 is printed
pub detail_is_printed : (detail : List ℕ) → IsUtf8 detail → detail ≡ printed_detail detail
detail_is_printed detail is = sym (ap (λ b. cond b detail []) (is_utf8-from_IsUtf8 detail is))

nothing_by : (detail : List ℕ) (b : Bool) → is_utf8 detail ≡ b → (IsUtf8 detail → ⊥) → [] ≡ cond b detail []
nothing_by detail true is not = absurd (not (IsUtf8-from_is_utf8 detail is))
nothing_by detail false is not = refl

-- of another nothing is printed
pub no_detail_is_printed : (detail : List ℕ) → (IsUtf8 detail → ⊥) → [] ≡ printed_detail detail
no_detail_is_printed detail not = nothing_by detail (is_utf8 detail) refl not
