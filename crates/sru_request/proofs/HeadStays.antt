-- What is answered to a head stays whatever follows its octets.
use Rattle.std.proofs.Common.{◌≡◌, ◌≢◌, ◌≤◌, ◌+◌, ◌==◌, ◌&&◌, ℕ, zero, suc, Bool, true, false, List, [], ◌∷◌, ◌++◌, length}
use Rattle.std.proofs.Common.{◌∙◌, take, Option, Some, None, Result, Ok, Err, refl, sym, ap, subst, arith, cond, option_map}
use Rattle.std.proofs.lemmas.Bool.{ltb-false}
use Rattle.std.proofs.lemmas.List.{take-append-le}
use Rattle.std.specs.Prelude.{nat_lt}
use Rattle.sru_request.specs.declared.faults.HeadFault.{HeadFault}
use Rattle.sru_request.specs.declared.faults.HeadFault.TheVariants.{HeadTooLarge}
use Rattle.sru_request.specs.declared.head.HeadGot.{HeadGot}
use Rattle.sru_request.specs.declared.head.HeadGot.TheVariants.{NeedMore}
use Rattle.sru_request.specs.Head.{begins_with_line_feed, line_behind, or_else, head_length}
use Rattle.sru_request.specs.Laws.{HeadStays}
use Rattle.sru_request.specs.Request.{IsAnswerTo, IsAnswerIn, IsHeadAnswer, most_head_octets}

-- ---- the end of a head

-- what an empty line has behind a line feed, where this is one, and this, or these two
abbrev line_by : (feed one two : Bool) → Option ℕ
line_by feed one two = cond feed (cond one (Some 1) (cond two (Some 2) None)) None

no_line : (feed : Bool) (len : ℕ) → cond feed None None ≡ Some len → ⊥
no_line true len h = cc
no_line false len h = cc

-- one octet alone is no line of two
one_line : (feed one first second : Bool) (len : ℕ) → line_by feed one (first && false) ≡ Some len
    → line_by feed one (first && second) ≡ Some len
one_line false one first second len h = absurd cc
one_line true true first second len h = h
one_line true false true second len h = absurd cc
one_line true false false second len h = absurd cc

-- a line that is there stays
line_stays : (octet : ℕ) (rest more : List ℕ) (len : ℕ) → line_behind octet rest ≡ Some len
    → line_behind octet (rest ++ more) ≡ Some len
line_stays octet [] more len h = absurd (no_line (octet == 10) len h)
line_stays octet (a ∷ []) more len h =
    one_line (octet == 10) (a == 10) (a == 13) (begins_with_line_feed more) len h
line_stays octet (a ∷ b ∷ rest) more len h = h

-- one octet has no head
none_of : (feed : Bool) (len : ℕ) → option_map suc (or_else (cond feed None None) None) ≡ Some len → ⊥
none_of true len h = cc
none_of false len h = cc

no_head : (octet len : ℕ) → head_length (octet ∷ []) ≡ Some len → ⊥
no_head octet len h = none_of (octet == 10) len h

-- and where a head ends behind it, none begins to be there
no_line_stays : (octet : ℕ) (rest more : List ℕ) (len : ℕ) → line_behind octet rest ≡ None
    → head_length rest ≡ Some len → line_behind octet (rest ++ more) ≡ None
no_line_stays octet [] more len h behind = absurd cc
no_line_stays octet (a ∷ []) more len h behind = absurd (no_head a len behind)
no_line_stays octet (a ∷ b ∷ rest) more len h behind = h

-- an octet in front of a head
in_front : (line line_then rest rest_then : Option ℕ) (len : ℕ)
    → ((n : ℕ) → line ≡ Some n → line_then ≡ Some n)
    → (line ≡ None → (n : ℕ) → rest ≡ Some n → line_then ≡ None)
    → ((n : ℕ) → rest ≡ Some n → rest_then ≡ Some n)
    → option_map suc (or_else line rest) ≡ Some len → option_map suc (or_else line_then rest_then) ≡ Some len
in_front (Some n) line_then rest rest_then len line_is none_is rest_is h =
    ap (λ line. option_map suc (or_else line rest_then)) (line_is n refl) ∙ h
in_front None line_then None rest_then len line_is none_is rest_is h = absurd cc
in_front None line_then (Some n) rest_then len line_is none_is rest_is h =
    ap (λ line. option_map suc (or_else line rest_then)) (none_is refl n refl)
    ∙ ap (option_map suc) (rest_is n refl) ∙ h

-- a head that has ended stays as long as it is
length_stays : (octets more : List ℕ) (len : ℕ) → head_length octets ≡ Some len → head_length (octets ++ more) ≡ Some len
length_stays [] more len h = absurd cc
length_stays (octet ∷ rest) more len h =
    in_front (line_behind octet rest) (line_behind octet (rest ++ more)) (head_length rest) (head_length (rest ++ more)) len
    (line_stays octet rest more) (λ none n. no_line_stays octet rest more n none) (length_stays rest more) h

-- ---- how long it is

line_length : (feed one two : Bool) (len : ℕ) → line_by feed one two ≡ Some len → len ≤ 2
line_length false one two len h = absurd cc
line_length true true two len h = let e : 1 ≡ len = cc in omega (arith, e)
line_length true false true len h = let e : 2 ≡ len = cc in omega (arith, e)
line_length true false false len h = absurd cc

one_length : (feed one first : Bool) (len : ℕ) → line_by feed one (first && false) ≡ Some len → len ≤ 1
one_length false one first len h = absurd cc
one_length true true first len h = let e : 1 ≡ len = cc in omega (arith, e)
one_length true false true len h = absurd cc
one_length true false false len h = absurd cc

line_within : (octet : ℕ) (rest : List ℕ) (len : ℕ) → line_behind octet rest ≡ Some len → len ≤ length rest
line_within octet [] len h = absurd (no_line (octet == 10) len h)
line_within octet (a ∷ []) len h = one_length (octet == 10) (a == 10) (a == 13) len h
line_within octet (a ∷ b ∷ rest) len h =
    omega (arith, line_length (octet == 10) (a == 10) ((a == 13) && (b == 10)) len h)

front_within : (line rest : Option ℕ) (most len : ℕ) → ((n : ℕ) → line ≡ Some n → n ≤ most)
    → ((n : ℕ) → rest ≡ Some n → n ≤ most) → option_map suc (or_else line rest) ≡ Some len → len ≤ suc most
front_within (Some n) rest most len line_is rest_is h =
    let e : suc n ≡ len = cc in omega (arith, e, line_is n refl)
front_within None (Some n) most len line_is rest_is h =
    let e : suc n ≡ len = cc in omega (arith, e, rest_is n refl)
front_within None None most len line_is rest_is h = absurd cc

within : (octets : List ℕ) (len : ℕ) → head_length octets ≡ Some len → len ≤ length octets
within [] len h = absurd cc
within (octet ∷ rest) len h =
    front_within (line_behind octet rest) (head_length rest) (length rest) len (line_within octet rest) (within rest) h

-- ---- the octets that are looked at

-- more octets only come behind them
front_kept : (most : ℕ) (octets more : List ℕ) → (extra : List ℕ) × (take most (octets ++ more) ≡ take most octets ++ extra)
front_kept zero octets more = ([], refl)
front_kept (suc most) [] more = (take (suc most) more, refl)
front_kept (suc most) (octet ∷ octets) more =
    let kept = front_kept most octets more in (kept.0, ap (λ seen. octet ∷ seen) kept.1)

-- and none, where as many as are looked at have come
full_kept : (most : ℕ) (octets more : List ℕ) → most ≤ length (take most octets)
    → take most (octets ++ more) ≡ take most octets
full_kept zero octets more full = refl
full_kept (suc most) [] more full = absurd (omega (arith, full))
full_kept (suc most) (octet ∷ octets) more full =
    ap (λ seen. octet ∷ seen) (full_kept most octets more (omega (arith, full)))

-- ---- what is answered

-- where a head has ended, more octets change nothing
ended_stays : (seen extra : List ℕ) (len : ℕ) (answer : Result HeadGot HeadFault) → head_length seen ≡ Some len
    → IsAnswerTo (take len seen) answer → IsAnswerIn (seen ++ extra) (head_length (seen ++ extra)) answer
ended_stays seen extra len answer ends is =
    subst (λ (found : Option ℕ). IsAnswerIn (seen ++ extra) found answer) (sym (length_stays seen extra len ends))
    (subst (λ (head : List ℕ). IsAnswerTo head answer) (sym (take-append-le len seen extra (within seen len ends))) is)

-- where none has, and no more are needed, as many have come as are looked at
not_more : (fewer : Bool) (answer : Result HeadGot HeadFault) → answer ≢ Ok NeedMore
    → answer ≡ cond fewer (Ok NeedMore) (Err HeadTooLarge) → fewer ≡ false
not_more true answer known h = absurd (known h)
not_more false answer known h = refl

by_length : (octets more : List ℕ) (len : Option ℕ) (answer : Result HeadGot HeadFault)
    → head_length (take most_head_octets octets) ≡ len → answer ≢ Ok NeedMore
    → IsAnswerIn (take most_head_octets octets) len answer → IsHeadAnswer (octets ++ more) answer
by_length octets more None answer found known is =
    subst (λ (seen : List ℕ). IsAnswerIn seen (head_length seen) answer)
    (sym (full_kept most_head_octets octets more
    (ltb-false (length (take most_head_octets octets)) most_head_octets
    (not_more (nat_lt (length (take most_head_octets octets)) most_head_octets) answer known is))))
    (subst (λ (len : Option ℕ). IsAnswerIn (take most_head_octets octets) len answer) (sym found) is)
by_length octets more (Some len) answer found known is =
    let kept = front_kept most_head_octets octets more in
    subst (λ (seen : List ℕ). IsAnswerIn seen (head_length seen) answer) (sym kept.1)
    (ended_stays (take most_head_octets octets) kept.0 len answer found is)

-- what is answered to octets of which no more are needed stays whatever follows them
pub head-stays : (octets : List ℕ) → HeadStays octets
head-stays octets more answer known is =
    by_length octets more (head_length (take most_head_octets octets)) answer refl known is
