-- The test targets keep to what every world does (this project's own)
use Rattle.std.specs.Prelude.{◌≡◌, ℕ, ◌-◌, ◌≤◌, ◌||◌, Bool, true, false, cond, List, Option, None, Some, Result, Ok, Err, IfOk, IfErr, codes, refl, min, slice_get}
use Rattle.std.specs.Option.{option_or}
use Rattle.std.proofs.Common.{arith}
use Rattle.z_types.specs.Bib1.{is_gone}
use Rattle.z_types.specs.Bounds.{most_number}
use Rattle.z_types.specs.World.{HitsAreCounts, InnerIsTold, WholeIsNotGone}
use Rattle.z_types.specs.declared.address.Address.TheVariants.{Test, Tcp, Login}
use Rattle.z_types.specs.declared.address.Site.TheVariants as site
use Rattle.z_types.specs.declared.diagnostic.Diag.{Diag}
use Rattle.z_types.specs.Same.{is_same}
use Rattle.z_types.specs.declared.key.SetKey.{SetKey}
use Rattle.test_target.specs.Searches.{answer_unless, database_fault, operand_fault, search_at}
use Rattle.test_target.specs.declared.places.Location.{Location}
use Rattle.test_target.specs.declared.syntaxes.Syntax.{Syntax}
use Rattle.test_target.specs.Places.{places}
use Rattle.test_target.specs.Syntaxes.{syntax_in, xml, sutrs}
use Rattle.test_target.specs.Records.{text_in, written, record_in, record_at}
use Rattle.test_target.specs.World.{number_at, answer_of, told_of, search_of, record_of}

hits_within : (fault : Option Diag) (sum : ℕ)
    → IfOk (answer_unless fault (min sum most_number)) (λ count. count ≤ most_number)
hits_within (Some diag) sum = tt
hits_within None sum = omega arith

counted_at : (number : Option ℕ) (key : SetKey)
    → IfOk (answer_of (λ n. search_at n key) number) (λ hits. hits ≤ most_number)
counted_at None key = tt
counted_at (Some n) key =
    hits_within (option_or (database_fault n key.dbs) (operand_fault key.query.root)) _

pub hits_are_counts : HitsAreCounts search_of
hits_are_counts address key = counted_at (number_at address) key

-- a target that is told inside a login is told by itself
pub inner_is_told : InnerIsTold told_of
inner_is_told (Test n) h = h
inner_is_told (Tcp host port) h = h
inner_is_told (Login (site.Test n) login) h = h
inner_is_told (Login (site.Tcp host port) login) h = h

-- a diagnostic other than of a set that is gone, if there is one
abbrev NotGone : {T : Type 0} → Result T Diag → Type 0
NotGone answer = IfErr answer (λ diag. is_gone diag ≡ false)

either_not_gone : {T : Type 0} (b : Bool) (x y : Result T Diag) → NotGone x → NotGone y
    → NotGone (cond b x y)
either_not_gone true x y p q = p
either_not_gone false x y p q = q

text_not_gone : (n : ℕ) (place : Location) (element : Option (List ℕ))
    → NotGone (text_in n place element)
text_not_gone n place None = tt
text_not_gone n place (Some element) =
    either_not_gone (is_same element (codes "F") || is_same element (codes "dc")) _ _ tt
    (either_not_gone (is_same element (codes "B")) _ _ tt refl)

syntax_not_gone : (syntax : Option (List ℕ)) → NotGone (syntax_in syntax)
syntax_not_gone None = tt
syntax_not_gone (Some syntax) =
    either_not_gone (is_same syntax xml) _ _ tt (either_not_gone (is_same syntax sutrs) _ _ tt refl)

written_not_gone : (place : Location) (syntax : Result Syntax Diag) (text : Result (List ℕ) Diag) →
    NotGone syntax → NotGone text → NotGone (written place syntax text)
written_not_gone place (Err diag) text p q = p
written_not_gone place (Ok syntax) (Err diag) p q = q
written_not_gone place (Ok syntax) (Ok text) p q = tt

record_not_gone : (n : ℕ) (place : Option Location) (syntax element : Option (List ℕ))
    → NotGone (record_in n place syntax element)
record_not_gone n None syntax element = refl
record_not_gone n (Some place) syntax element =
    written_not_gone place (syntax_in syntax) (text_in n place element) (syntax_not_gone syntax)
    (text_not_gone n place element)

not_gone_at : (number : Option ℕ) (key : SetKey) (position : ℕ) (syntax element : Option (List ℕ))
    → NotGone (answer_of (λ n. record_at n key position syntax element) number)
not_gone_at None key position syntax element = refl
not_gone_at (Some n) key position syntax element =
    record_not_gone n (slice_get (places n key) (position - 1)) syntax element

pub whole_is_not_gone : WholeIsNotGone record_of
whole_is_not_gone address key position syntax element =
    not_gone_at (number_at address) key position syntax element
