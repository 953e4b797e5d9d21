-- A token is a span that starts where it is looked for, and tokens that lead on are spans in order.
use Rattle.std.proofs.Common.{◌≡◌, ℕ, zero, suc, ◌+◌, ◌<◌, ◌≤◌, ◌==◌, Bool, true, false, if◌then◌else◌, List, [], ◌∷◌, length, slice_index, get_or, drop, Option, Some, None, option_map, IfSome, ⊎_elim, refl, sym, ◌∙◌, subst, ap, arith, length-drop, get_or-drop}
use Rattle.std.specs.List.{All, AllPairs}
use Rattle.std.proofs.lemmas.Bool.{eqb-true, cases_lt}
use Rattle.std.proofs.lemmas.List.{get_or_past}
use Rattle.std.proofs.lemmas.List.Elements.{All-nil, All-cons, All-weaker}
use Rattle.cql_lex.proofs.LengthLemmas.{word_length_some}
use Rattle.cql_lex.specs.declared.token.Token.{Token}
use Rattle.cql_lex.specs.declared.token.Kind.{Kind}
use Rattle.cql_lex.specs.declared.token.Kind.TheVariants as kind
use Rattle.cql_lex.specs.Characters.{is_space, ends_word, spaces, quoted_length, word_length}
use Rattle.cql_lex.specs.Tokens.{token, equal_at, less_at, greater_at, token_at, quoted_at, word_at, next_start, IsNext, LeadsTo}
use Rattle.cql_lex.specs.Spans.{IsSpan, EndsBefore}

-- one test of two tokens
pub either : {A : Type 0} (b : Bool) (o p : Option Token) (t : Token) → (b ≡ true → o ≡ Some t → A) → (b ≡ false → p ≡ Some t → A) → (if b then o else p) ≡ Some t → A
either true o p t holds fails e = holds refl e
either false o p t holds fails e = fails refl e

pub some_one : (t u : Token) → Some t ≡ Some u → t ≡ u
some_one t u e = cc

-- an octet that is there
pub is_there : (text : List ℕ) (at b : ℕ) → 0 < b → slice_index text at ≡ b → at < length text
is_there text at b some e = ⊎_elim (λ (below : at < length text). below) (λ (past : length text ≤ at). absurd (omega (arith, get_or_past text at 0 past, e, some))) (cases_lt at (length text))

-- what is no sign, no quote and no white space ends no word
pub is_full : (b : ℕ) → is_space b ≡ false → (b == 40) ≡ false → (b == 41) ≡ false → (b == 47) ≡ false → (b == 61) ≡ false → (b == 60) ≡ false → (b == 62) ≡ false → (b == 34) ≡ false → ends_word b ≡ false
is_full b s o c l e m g q = rw (s, o, c, e, m, g, q, l) refl

-- white space ends with an octet that is none
spaces_stop : (xs : List ℕ) → spaces xs < length xs → is_space (get_or xs (spaces xs) 0) ≡ false
spaces_stop [] below = absurd (omega (arith, below))
spaces_stop (b ∷ xs) below = go (is_space b) refl below (λ (h : spaces xs < length xs). spaces_stop xs h)
  where
    go : (space : Bool) → is_space b ≡ space → spaces (b ∷ xs) < length (b ∷ xs) → (spaces xs < length xs → is_space (get_or xs (spaces xs) 0) ≡ false) → is_space (get_or (b ∷ xs) (spaces (b ∷ xs)) 0) ≡ false
    go true e h more = let g : suc (spaces xs) < suc (length xs) = rw e at h in rw e (more (omega (arith, g)))
    go false e h more = rw e e

pub next_full : (text : List ℕ) (at : ℕ) → next_start text at < length text → is_space (slice_index text (next_start text at)) ≡ false
unfolding next_start
next_full text at below =
    let left : spaces (drop at text) < length (drop at text) = omega (arith, below, length-drop at text) in
    ap is_space (sym (get_or-drop at text (spaces (drop at text)) 0)) ∙ spaces_stop (drop at text) left

-- white space stands within the text
spaces_within : (xs : List ℕ) → spaces xs ≤ length xs
spaces_within [] = omega arith
spaces_within (b ∷ xs) = go (is_space b) (spaces_within xs)
  where
    go : (space : Bool) → spaces xs ≤ length xs → (if space then suc (spaces xs) else 0) ≤ suc (length xs)
    go true h = omega (arith, h)
    go false h = omega arith

pub next_within : (text : List ℕ) (at : ℕ) → at ≤ length text → (at ≤ next_start text at) × (next_start text at ≤ length text)
unfolding next_start
next_within text at le =
    (omega arith, omega (arith, le, spaces_within (drop at text), length-drop at text))

-- one octet more in front
one_more : (o : Option ℕ) (m : ℕ) → IfSome o (λ n. n ≤ m) → IfSome (option_map suc o) (λ n. n ≤ suc m)
one_more None m h = tt
one_more (Some n) m h = omega (arith, h)

quoted_within : (taken : Bool) (s : List ℕ) → IfSome (quoted_length taken s) (λ n. n ≤ length s)
quoted_within true [] = tt
quoted_within false [] = tt
quoted_within true (b ∷ s) = one_more (quoted_length false s) (length s) (quoted_within false s)
quoted_within false (b ∷ s) = go (b == 34) (quoted_length (b == 92) s) (quoted_within (b == 92) s)
  where
    go : (ends : Bool) (o : Option ℕ) → IfSome o (λ n. n ≤ length s) → IfSome (if ends then Some 1 else option_map suc o) (λ n. n ≤ suc (length s))
    go true o h = omega arith
    go false o h = one_more o (length s) h

word_within : (taken : Bool) (s : List ℕ) → IfSome (word_length taken s) (λ n. n ≤ length s)
word_within true [] = tt
word_within false [] = omega arith
word_within true (b ∷ s) = one_more (word_length false s) (length s) (word_within false s)
word_within false (b ∷ s) = go (ends_word b) (word_length (b == 92) s) (word_within (b == 92) s)
  where
    go : (ends : Bool) (o : Option ℕ) → IfSome o (λ n. n ≤ length s) → IfSome (if ends then Some 0 else option_map suc o) (λ n. n ≤ suc (length s))
    go true o h = omega arith
    go false o h = one_more o (length s) h

-- a token that starts here, with at least one octet, within the text
pub record IsSpanAt (len at : ℕ) (t : Token) : Type 0 where
  pub here : t.start ≡ at
  pub some : at < t.end
  pub within : t.end ≤ len

span_of : (text : List ℕ) (k : Kind) (at len : ℕ) (t : Token) → 0 < len → at + len ≤ length text → Some (token k at len) ≡ Some t → IsSpanAt (length text) at t
span_of text k at len t some within e =
    subst (IsSpanAt (length text) at) (some_one (token k at len) t e) (record { here = refl; some = omega (arith, some); within = within })

-- a symbol of two octets, or of one
span_two : (text : List ℕ) (k : Kind) (at b : ℕ) → 0 < b → (slice_index text (at + 1) == b) ≡ true → IsSpanAt (length text) at (token k at 2)
span_two text k at b some h =
    let there = is_there text (at + 1) b some (eqb-true (slice_index text (at + 1)) b h) in
    record { here = refl; some = omega arith; within = omega (arith, there) }

span_one : (text : List ℕ) (k : Kind) (at : ℕ) → at < length text → IsSpanAt (length text) at (token k at 1)
span_one text k at below = record { here = refl; some = omega arith; within = omega (arith, below) }

span_if : (text : List ℕ) (at : ℕ) (b : Bool) (t u : Token) → (b ≡ true → IsSpanAt (length text) at t) → (b ≡ false → IsSpanAt (length text) at u) → IsSpanAt (length text) at (if b then t else u)
span_if text at true t u h k = h refl
span_if text at false t u h k = k refl

span_equal : (text : List ℕ) (at : ℕ) → at < length text → IsSpanAt (length text) at (equal_at (slice_index text (at + 1)) at)
span_equal text at below = span_if text at (slice_index text (at + 1) == 61) _ _ (λ h. span_two text kind.Exact at 61 (omega arith) h) (λ _. span_one text kind.Equal at below)

span_greater : (text : List ℕ) (at : ℕ) → at < length text → IsSpanAt (length text) at (greater_at (slice_index text (at + 1)) at)
span_greater text at below = span_if text at (slice_index text (at + 1) == 61) _ _ (λ h. span_two text kind.GreaterOrEqual at 61 (omega arith) h) (λ _. span_one text kind.Greater at below)

span_less : (text : List ℕ) (at : ℕ) → at < length text → IsSpanAt (length text) at (less_at (slice_index text (at + 1)) at)
span_less text at below =
    span_if text at (slice_index text (at + 1) == 61) _ _ (λ h. span_two text kind.LessOrEqual at 61 (omega arith) h) (λ _.
    span_if text at (slice_index text (at + 1) == 62) _ _ (λ h. span_two text kind.LessOrGreater at 62 (omega arith) h) (λ _. span_one text kind.Less at below))

-- a string, and a word that has an octet
span_quoted : (text : List ℕ) (at : ℕ) (t : Token) → at < length text → quoted_at text at ≡ Some t → IsSpanAt (length text) at t
unfolding quoted_at
span_quoted text at t below e = go (quoted_length false (drop (at + 1) text)) (quoted_within false (drop (at + 1) text)) e
  where
    go : (o : Option ℕ) → IfSome o (λ n. n ≤ length (drop (at + 1) text)) → option_map (λ len. token kind.Quoted at (len + 1)) o ≡ Some t → IsSpanAt (length text) at t
    go None h e = cc
    go (Some n) h e = span_of text kind.Quoted at (n + 1) t (omega arith) (omega (arith, h, below, length-drop (at + 1) text)) e

span_word : (text : List ℕ) (at : ℕ) (t : Token) → at < length text → ends_word (slice_index text at) ≡ false → word_at text at ≡ Some t → IsSpanAt (length text) at t
unfolding word_at
span_word text at t below full e = go (word_length false (drop at text)) (word_within false (drop at text)) (word_length_some text at below full) e
  where
    go : (o : Option ℕ) → IfSome o (λ n. n ≤ length (drop at text)) → IfSome o (λ n. 0 < n) → option_map (λ len. token kind.Word at len) o ≡ Some t → IsSpanAt (length text) at t
    go None h s e = cc
    go (Some n) h s e = span_of text kind.Word at n t s (omega (arith, h, below, length-drop at text)) e

-- each token is one
pub token_span : (text : List ℕ) (at : ℕ) (t : Token) → at < length text → is_space (slice_index text at) ≡ false → token_at text at ≡ Some t → IsSpanAt (length text) at t
unfolding token_at
token_span text at t below full e =
    let b = slice_index text at in
    let one = λ (k : Kind) (f : Some (token k at 1) ≡ Some t). span_of text k at 1 t (omega arith) (omega (arith, below)) f in
    let same = λ (u : Token) (s : IsSpanAt (length text) at u) (f : Some u ≡ Some t). subst (IsSpanAt (length text) at) (some_one u t f) s in
    either (b == 40) _ _ t (λ h f. one kind.Open f) (λ o.
    either (b == 41) _ _ t (λ h f. one kind.Close f) (λ c.
    either (b == 47) _ _ t (λ h f. one kind.Slash f) (λ l.
    either (b == 61) _ _ t (λ h f. same (equal_at (slice_index text (at + 1)) at) (span_equal text at below) f) (λ m.
    either (b == 60) _ _ t (λ h f. same (less_at (slice_index text (at + 1)) at) (span_less text at below) f) (λ s.
    either (b == 62) _ _ t (λ h f. same (greater_at (slice_index text (at + 1)) at) (span_greater text at below) f) (λ g.
    either (b == 34) _ _ t (λ h f. span_quoted text at t below f) (λ q f. span_word text at t below (is_full b full o c l m s g q) f))))))) e

-- what comes next is a span behind the white space
pub next_span : (text : List ℕ) (at : ℕ) (t : Token) → IsNext text at t → IsSpanAt (length text) (next_start text at) t
next_span text at t n = token_span text (next_start text at) t n.within (next_full text at n.within) n.token

all_pairs_cons : (R : Token → Token → Type 0) (x : Token) (xs : List Token) → All (R x) xs → AllPairs R xs → AllPairs R (x ∷ xs)
all_pairs_cons R x xs h k zero zero d less below = absurd (omega (arith, less))
all_pairs_cons R x xs h k zero (suc j) d less below = h j d (omega (arith, below))
all_pairs_cons R x xs h k (suc i) zero d less below = absurd (omega (arith, less))
all_pairs_cons R x xs h k (suc i) (suc j) d less below = k i j d (omega (arith, less)) (omega (arith, below))

-- what tokens that lead on from an offset are
pub record AreSpansFrom (len at : ℕ) (ts : List Token) : Type 0 where
  pub spans : All (IsSpan len) ts
  pub behind : All (λ (t : Token). at ≤ t.start) ts
  pub in_order : AllPairs EndsBefore ts

pub leads_spans : (text : List ℕ) (at : ℕ) (ts : List Token) (end : ℕ) → at ≤ length text → LeadsTo text at ts end → AreSpansFrom (length text) at ts
leads_spans text at [] end le h =
    record { spans = All-nil (IsSpan (length text)); behind = All-nil (λ (t : Token). at ≤ t.start); in_order = λ i j d less below. absurd (omega (arith, below)) }
leads_spans text at (t ∷ ts) end le h =
    let one = next_span text at t h.0 in
    let after = next_within text at le in
    let more = leads_spans text t.end ts end one.within h.1 in
    let start : at ≤ t.start = omega (arith, one.here, after.0) in
    let farther : (u : Token) → t.end ≤ u.start → at ≤ u.start = λ u le'. omega (arith, le', one.some, after.0) in
    record {
      spans = All-cons (IsSpan (length text)) t ts (record { some = omega (arith, one.here, one.some); within = one.within }) more.spans;
      behind = All-cons (λ (u : Token). at ≤ u.start) t ts start (All-weaker (λ (u : Token). t.end ≤ u.start) (λ (u : Token). at ≤ u.start) farther ts more.behind);
      in_order = all_pairs_cons EndsBefore t ts more.behind more.in_order;
    }
