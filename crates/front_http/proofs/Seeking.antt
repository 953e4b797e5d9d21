-- The end of a head is looked for where it can be: behind octets in which none ends.
use Rattle.std.proofs.Common.{◌≡◌, ◌∙◌, ◌<◌, ◌+◌, ◌-◌, ◌||◌, ℕ, zero, suc, Bool, true, false, if◌then◌else◌, ◌==◌, ◌&&◌, List, [], ◌∷◌, length, take, drop, get_or, Option, Some, None, Ok, Err, option_map, refl, sym, ap, subst, arith, add-one, drop-cons, cond}
use Rattle.std.specs.Prelude.{is_some}
use Rattle.sru_request.specs.Head.{empty_line, head_length, line_behind, or_else}
use Rattle.std.proofs.Math.Seq.{take_all}
use Rattle.std.proofs.lemmas.Bool.{lt-ltb, or_parts}
use Rattle.sru_request.specs.Request.{IsAnswerIn, IsHeadAnswer, most_head_octets}
use Rattle.sru_request.specs.declared.faults.HeadFault.TheVariants.{HeadTooLarge}
use Rattle.sru_request.specs.declared.head.HeadGot.TheVariants.{NeedMore}
use Rattle.front_http.specs.Seeking.{HasPassed, ends_here, has_line_feed}

-- ---- by octets

is-some-or : (a b : Option ℕ) → is_some (option_map suc (or_else a b)) ≡ (is_some a || is_some b)
is-some-or (Some n) b = refl
is-some-or None (Some n) = refl
is-some-or None None = refl

-- a head ends where the octets do, or behind the first
ends-cons : (first : ℕ) (rest : List ℕ) → is_some (head_length (first ∷ rest)) ≡ (ends_here (first ∷ rest) || is_some (head_length rest))
ends-cons first rest = is-some-or (line_behind first rest) (head_length rest)

drop_next : (xs : List ℕ) (i : ℕ) → i < length xs → drop i xs ≡ get_or xs i 0 ∷ drop (i + 1) xs
drop_next xs i below = rw (add-one i, drop-cons xs i 0) refl

or-false : (a b : Bool) → a ≡ false → (a || b) ≡ b
or-false a b e = rw e refl

-- an octet at which no head ends is passed
pub ends-more : (xs : List ℕ) (i : ℕ) → i < length xs → ends_here (drop i xs) ≡ false
    → is_some (head_length (drop i xs)) ≡ is_some (head_length (drop (i + 1) xs))
ends-more xs i below none =
    let e = drop_next xs i below in
    ap (λ o. is_some (head_length o)) e ∙ ends-cons (get_or xs i 0) (drop (i + 1) xs)
    ∙ or-false (ends_here (get_or xs i 0 ∷ drop (i + 1) xs)) _ (ap ends_here (sym e) ∙ none)

-- ---- behind octets that were looked through

none-line : (a b : Option ℕ) → option_map suc (or_else a b) ≡ None → (a ≡ None) × (b ≡ None)
none-line (Some n) b h = absurd cc
none-line None (Some n) h = absurd cc
none-line None None h = (refl, refl)

-- whether an empty line stands behind an octet is seen in two
line-of-two : (octet k : ℕ) (rest : List ℕ) → line_behind octet (take (suc (suc k)) rest) ≡ line_behind octet rest
line-of-two octet k [] = refl
line-of-two octet k (a ∷ []) = refl
line-of-two octet k (a ∷ b ∷ rest) = refl

or-none : (a b : Option ℕ) → a ≡ None → is_some b ≡ is_some (option_map suc (or_else a b))
or-none (Some n) b e = absurd cc
or-none None (Some n) e = refl
or-none None None e = refl

-- so all but the last two octets of those need not be looked at again
pub passed-by : (k : ℕ) (xs : List ℕ) → head_length (take (suc (suc k)) xs) ≡ None
    → is_some (head_length (drop k xs)) ≡ is_some (head_length xs)
passed-by zero xs none = refl
passed-by (suc k) [] none = refl
passed-by (suc k) (x ∷ rest) none =
    let parts = none-line (line_behind x (take (suc (suc k)) rest)) (head_length (take (suc (suc k)) rest)) none in
    passed-by k rest parts.1
    ∙ or-none (line_behind x rest) (head_length rest) (sym (line-of-two x k rest) ∙ parts.0)

-- where more than two are passed, a head ends behind all but the last two of them exactly where it ends at all
pub passed-from : (octets : List ℕ) (passed : ℕ) → 2 < passed → HasPassed octets passed
    → is_some (head_length (drop (passed - 2) octets)) ≡ is_some (head_length octets)
passed-from octets passed above h =
    let e : passed ≡ suc (suc (passed - 2)) = omega (arith, above) in
    passed-by (passed - 2) octets (ap (λ n. head_length (take n octets)) (sym e) ∙ h.endless)

-- ---- by line feeds

-- an empty line of LF, or of CR LF, by whether the octets are those
abbrev empty-by : (line_feed return next : Bool) → Option ℕ
empty-by line_feed return next = if line_feed then Some 1 else (if return && next then Some 2 else None)

none-by : (line_feed return : Bool) → line_feed ≡ false → empty-by line_feed return false ≡ None
none-by line_feed true h = rw h refl
none-by line_feed false h = rw h refl

still-none : (line_feed return next : Bool) → empty-by line_feed return false ≡ None → next ≡ false → empty-by line_feed return next ≡ None
still-none line_feed return next e h = rw h e

-- an empty line has a line feed
no-empty : (rest : List ℕ) → has_line_feed rest ≡ false → empty_line rest ≡ None
no-empty [] none = refl
no-empty (a ∷ []) none = none-by (a == 10) (a == 13) (or_parts (a == 10) false none).0
no-empty (a ∷ b ∷ rest) none =
    let parts = or_parts (a == 10) (has_line_feed (b ∷ rest)) none in
    still-none (a == 10) (a == 13) (b == 10) (none-by (a == 10) (a == 13) parts.0) (or_parts (b == 10) (has_line_feed rest) parts.1).0

-- so none is begun by octets behind which there is no line feed
no-more-empty : (k : ℕ) (rest : List ℕ) → empty_line (take k rest) ≡ None → has_line_feed (drop k rest) ≡ false → empty_line rest ≡ None
no-more-empty zero rest e none = no-empty rest none
no-more-empty (suc k) [] e none = refl
no-more-empty (suc zero) (a ∷ []) e none = e
no-more-empty (suc zero) (a ∷ b ∷ rest) e none =
    still-none (a == 10) (a == 13) (b == 10) e (or_parts (b == 10) (has_line_feed rest) none).0
no-more-empty (suc (suc k)) (a ∷ []) e none = e
no-more-empty (suc (suc k)) (a ∷ b ∷ rest) e none = e

line-by : (line_feed : Bool) (few all : Option ℕ) → (if line_feed then few else None) ≡ None → (few ≡ None → all ≡ None)
    → (if line_feed then all else None) ≡ None
line-by true few all e more = more e
line-by false few all e more = refl

none-or : (a b : Option ℕ) → a ≡ None → b ≡ None → option_map suc (or_else a b) ≡ None
none-or a b e f = rw (e, f) refl

-- no head ends where none did and no line feed has come since
pub no-new-end : (k : ℕ) (xs : List ℕ) → head_length (take k xs) ≡ None → has_line_feed (drop k xs) ≡ false → head_length xs ≡ None
no-new-end k [] endless none = refl
no-new-end zero (x ∷ rest) endless none =
    let parts = or_parts (x == 10) (has_line_feed rest) none in
    none-or (line_behind x rest) (head_length rest) (line-by (x == 10) None (empty_line rest) (rw parts.0 refl) (λ e. no-empty rest parts.1))
    (no-new-end zero rest refl parts.1)
no-new-end (suc k) (x ∷ rest) endless none =
    let parts = none-line (line_behind x (take k rest)) (head_length (take k rest)) endless in
    none-or (line_behind x rest) (head_length rest)
    (line-by (x == 10) (empty_line (take k rest)) (empty_line rest) parts.0 (λ e. no-more-empty k rest e none))
    (no-new-end k rest parts.1 none)

-- ---- what is needed

is-none : (found : Option ℕ) → is_some found ≡ false → found ≡ None
is-none None h = refl
is-none (Some n) h = absurd cc

-- octets that are few, and in which no head ends, want more
pub wants-more : (octets : List ℕ) → is_some (head_length octets) ≡ false → length octets < most_head_octets
    → IsHeadAnswer octets (Ok NeedMore)
wants-more octets endless few =
    let all : take most_head_octets octets ≡ octets = take_all most_head_octets octets (omega (arith, few)) in
    subst (λ (seen : List ℕ). IsAnswerIn seen (head_length seen) (Ok NeedMore)) (sym all)
    (subst (λ (found : Option ℕ). IsAnswerIn octets found (Ok NeedMore)) (sym (is-none (head_length octets) endless))
    (ap (λ fewer. cond fewer (Ok NeedMore) (Err HeadTooLarge)) (sym (lt-ltb (length octets) most_head_octets few))))
