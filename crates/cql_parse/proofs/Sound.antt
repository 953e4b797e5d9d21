-- What is true of each lexeme of a text that is UTF-8.
use Rattle.std.proofs.Common.{◌≡◌, ℕ, zero, suc, ◌+◌, ◌-◌, ◌<◌, ◌≤◌, ◌==◌, Bool, true, false, if◌then◌else◌, List, [], ◌∷◌, length, slice_index, get_or, take, drop, Option, Some, None, option_map, IsUtf8, IsCharBoundary, bytes_eq, codes, eq-eqb, ◌⊎◌, inl, inr, ⊎_elim, refl, sym, ◌∙◌, subst, ap, arith, length-drop, length-take, get_or-drop}
use Rattle.std.proofs.lemmas.Bool.{false≢true, eqb-true, cases_lt}
use Rattle.std.proofs.lemmas.Bool.Decides.{nat_tests}
use Rattle.std.proofs.lemmas.Str.{IsUtf8-between, IsCharBoundary-start, IsCharBoundary-end, IsCharBoundary-before_ascii, IsCharBoundary-after_ascii}
use Rattle.cql_lex.proofs.SpanLemmas.{either, some_one, is_there, is_full, next_full}
use Rattle.cql_lex.proofs.LengthLemmas.{drop_next, word_length_some}
use Rattle.cql_lex.specs.declared.token.Token.{Token}
use Rattle.cql_lex.specs.declared.token.Kind.{Kind}
use Rattle.cql_lex.specs.declared.token.Kind.TheVariants as kind
use Rattle.cql_lex.specs.Characters.{is_space, ends_word, spaces, quoted_length, word_length, is_word, is_whole}
use Rattle.cql_lex.specs.Tokens.{token, equal_at, less_at, greater_at, LeadsTo, AreTokens, next_start, token_at, quoted_at, word_at}
use Rattle.cql_parse.specs.declared.lexeme.Class.{Class}
use Rattle.cql_parse.specs.declared.lexeme.Class.TheVariants as class
use Rattle.cql_parse.specs.Classes.{lower, word_class}
use Rattle.cql_parse.specs.Lexemes.{Lexeme, between, lexeme_of, lexemes}
use Rattle.cql_parse.proofs.Cuts.{QuotedCut, quoted_cut, WordCut, word_cut, by_test}
use Rattle.cql_parse.specs.WellFormed.{IsSymbolText, equal, exact, less, greater, less_or_equal, greater_or_equal, less_or_greater, IsTermText, IsWordText}

-- the text of a lexeme of this class
abbrev pub Sound : Class → List ℕ → Type 0
Sound class.Open text = Unit {0}
Sound class.Close text = Unit {0}
Sound class.Slash text = Unit {0}
Sound class.Equal text = IsSymbolText text
Sound class.Greater text = IsSymbolText text
Sound class.Symbol text = IsSymbolText text
Sound class.Quoted text = IsTermText text
Sound class.Word text = IsWordText text × (word_class text ≡ class.Word)
Sound class.Boolean text = IsWordText text × (word_class text ≡ class.Boolean)
Sound class.SortBy text = IsWordText text × (word_class text ≡ class.SortBy)

abbrev pub AllSound : List Lexeme → Type 0
AllSound [] = Unit {0}
AllSound (x ∷ xs) = Sound x.class x.text × AllSound xs

-- a token's lexeme is sound, and the text may be cut behind the token
pub record IsSoundToken (text : List ℕ) (t : Token) : Type 0 where
  pub sound : Sound (lexeme_of text t).class (lexeme_of text t).text
  pub cut : IsCharBoundary text t.end

-- what ends words is below 128
ends_ascii : (b : ℕ) → ends_word b ≡ true → b < 128
ends_ascii b h = ⊎_elim (λ (low : b < 128). low) (λ (high : 128 ≤ b). absurd (false≢true (sym (none high) ∙ h))) (cases_lt b 128)
  where
    none : 128 ≤ b → ends_word b ≡ false
    none high = grind (arith, nat_tests)

-- the octets of a symbol
between_one : (text : List ℕ) (at a : ℕ) → at < length text → slice_index text at ≡ a → between text at (at + 1) ≡ a ∷ []
between_one text at a below e =
    let len : at + 1 - at ≡ 1 = omega arith in
    rw (len, drop_next text at below, e) refl

between_two : (text : List ℕ) (at a b : ℕ) → at + 1 < length text → slice_index text at ≡ a → slice_index text (at + 1) ≡ b → between text at (at + 2) ≡ a ∷ b ∷ []
between_two text at a b below e f =
    let len : at + 2 - at ≡ 2 = omega arith in
    let here : at < length text = omega (arith, below) in
    rw (len, drop_next text at here, e, drop_next text (at + 1) below, f) refl

-- a sign of one octet, and a symbol of two
sound_one : (text : List ℕ) (k : Kind) (at a : ℕ) → IsUtf8 text → at < length text → a < 128 → slice_index text at ≡ a → Sound (lexeme_of text (token k at 1)).class (lexeme_of text (token k at 1)).text → IsSoundToken text (token k at 1)
sound_one text k at a u below low e sound =
    record { sound = sound; cut = IsCharBoundary-after_ascii text at u below (omega (arith, low, e)) }

sign_one : (text : List ℕ) (at a : ℕ) → at < length text → slice_index text at ≡ a → IsSymbolText (a ∷ []) → IsSymbolText (between text at (at + 1))
sign_one text at a below e s = rw (between_one text at a below e) s

sound_two : (text : List ℕ) (k : Kind) (at a b : ℕ) → IsUtf8 text → 0 < b → b < 128 → slice_index text at ≡ a → slice_index text (at + 1) ≡ b → (IsSymbolText (between text at (at + 2)) → Sound (lexeme_of text (token k at 2)).class (lexeme_of text (token k at 2)).text) → IsSymbolText (a ∷ b ∷ []) → IsSoundToken text (token k at 2)
sound_two text k at a b u some low e f sound s =
    let below = is_there text (at + 1) b some f in
    let two : at + 1 + 1 ≡ at + 2 = omega arith in
    record {
      sound = sound (rw (between_two text at a b below e f) s);
      cut = subst (IsCharBoundary text) two (IsCharBoundary-after_ascii text (at + 1) u below (omega (arith, low, f)));
    }

-- the symbols that begin with one of = < >
sound_equal : (text : List ℕ) (at : ℕ) → IsUtf8 text → at < length text → slice_index text at ≡ 61 → IsSoundToken text (equal_at (slice_index text (at + 1)) at)
sound_equal text at u below e = by_test (slice_index text (at + 1) == 61)
    (λ h. rw h (sound_two text kind.Exact at 61 61 u (omega arith) (omega arith) e (eqb-true (slice_index text (at + 1)) 61 h) (λ s. s) exact))
    (λ h. rw h (sound_one text kind.Equal at 61 u below (omega arith) e (sign_one text at 61 below e equal)))

sound_greater : (text : List ℕ) (at : ℕ) → IsUtf8 text → at < length text → slice_index text at ≡ 62 → IsSoundToken text (greater_at (slice_index text (at + 1)) at)
sound_greater text at u below e = by_test (slice_index text (at + 1) == 61)
    (λ h. rw h (sound_two text kind.GreaterOrEqual at 62 61 u (omega arith) (omega arith) e (eqb-true (slice_index text (at + 1)) 61 h) (λ s. s) greater_or_equal))
    (λ h. rw h (sound_one text kind.Greater at 62 u below (omega arith) e (sign_one text at 62 below e greater)))

sound_less : (text : List ℕ) (at : ℕ) → IsUtf8 text → at < length text → slice_index text at ≡ 60 → IsSoundToken text (less_at (slice_index text (at + 1)) at)
sound_less text at u below e = by_test (slice_index text (at + 1) == 61)
    (λ h. rw h (sound_two text kind.LessOrEqual at 60 61 u (omega arith) (omega arith) e (eqb-true (slice_index text (at + 1)) 61 h) (λ s. s) less_or_equal))
    (λ h. by_test (slice_index text (at + 1) == 62)
    (λ g. rw (h, g) (sound_two text kind.LessOrGreater at 60 62 u (omega arith) (omega arith) e (eqb-true (slice_index text (at + 1)) 62 g) (λ s. s) less_or_greater))
    (λ g. rw (h, g) (sound_one text kind.Less at 60 u below (omega arith) e (sign_one text at 60 below e less))))

-- a string
sound_quoted : (text : List ℕ) (at : ℕ) (t : Token) → IsUtf8 text → at < length text → slice_index text at ≡ 34 → quoted_at text at ≡ Some t → IsSoundToken text t
unfolding quoted_at
sound_quoted text at t u below first e = go (quoted_length false (drop (at + 1) text)) refl e
  where
    here : (n : ℕ) → QuotedCut false (drop (at + 1) text) n → IsSoundToken text (token kind.Quoted at (n + 1))
    here n cut =
        let left : at + 1 + cut.len < length text = omega (arith, cut.within, length-drop (at + 1) text) in
        let start = IsCharBoundary-after_ascii text at u below (omega (arith, first)) in
        let quote : get_or text (at + 1 + cut.len) 0 ≡ 34 = sym (get_or-drop (at + 1) text cut.len 0) ∙ cut.quote in
        let stop = IsCharBoundary-before_ascii text (at + 1 + cut.len) left (omega (arith, quote)) in
        let last : at + 1 + cut.len + 1 ≡ at + (n + 1) = omega (arith, cut.one_more) in
        let len : at + 1 + cut.len - (at + 1) ≡ cut.len = omega arith in
        let all : at + (n + 1) - 1 - (at + 1) ≡ cut.len = omega (arith, cut.one_more) in
        let size : length (take cut.len (drop (at + 1) text)) ≡ cut.len = omega (arith, length-take cut.len (drop (at + 1) text), cut.within) in
        let utf8 : IsUtf8 (take cut.len (drop (at + 1) text)) = rw len at (IsUtf8-between text (at + 1) (at + 1 + cut.len) u (omega arith) start stop) in
        record {
          sound = rw all (record { utf8 = utf8; quotable = record { closes = λ rest. cut.closes rest ∙ ap Some (cut.one_more ∙ ap suc (sym size)) } });
          cut = subst (IsCharBoundary text) last (IsCharBoundary-after_ascii text (at + 1 + cut.len) u left (omega (arith, quote)));
        }

    go : (o : Option ℕ) → quoted_length false (drop (at + 1) text) ≡ o → option_map (λ len. token kind.Quoted at (len + 1)) o ≡ Some t → IsSoundToken text t
    go None f g = cc
    go (Some n) f g = subst (IsSoundToken text) (some_one (token kind.Quoted at (n + 1)) t g) (here n (quoted_cut false (drop (at + 1) text) n f))

-- the classes of bare words
pub word_classes : (text : List ℕ) → (word_class text ≡ class.Word) ⊎ ((word_class text ≡ class.Boolean) ⊎ (word_class text ≡ class.SortBy))
word_classes text = go (bytes_eq (lower text) (codes "and")) (bytes_eq (lower text) (codes "or")) (bytes_eq (lower text) (codes "not")) (bytes_eq (lower text) (codes "prox")) (bytes_eq (lower text) (codes "sortby"))
  where
    go : (a b c d e : Bool) → ((if a then class.Boolean else (if b then class.Boolean else (if c then class.Boolean else (if d then class.Boolean else (if e then class.SortBy else class.Word))))) ≡ class.Word) ⊎ (((if a then class.Boolean else (if b then class.Boolean else (if c then class.Boolean else (if d then class.Boolean else (if e then class.SortBy else class.Word))))) ≡ class.Boolean) ⊎ ((if a then class.Boolean else (if b then class.Boolean else (if c then class.Boolean else (if d then class.Boolean else (if e then class.SortBy else class.Word))))) ≡ class.SortBy))
    go true b c d e = inr (inl refl)
    go false true c d e = inr (inl refl)
    go false false true d e = inr (inl refl)
    go false false false true e = inr (inl refl)
    go false false false false true = inr (inr refl)
    go false false false false false = inl refl

word_sound : (text : List ℕ) → IsWordText text → Sound (word_class text) text
word_sound text w =
    ⊎_elim (λ (e : word_class text ≡ class.Word). subst (λ (c : Class). Sound c text) (sym e) (w, e)) (λ others.
    ⊎_elim (λ (e : word_class text ≡ class.Boolean). subst (λ (c : Class). Sound c text) (sym e) (w, e)) (λ (e : word_class text ≡ class.SortBy). subst (λ (c : Class). Sound c text) (sym e) (w, e)) others)
    (word_classes text)

-- as long as it is, and with an octet at least, a word is one
word_is : (text : List ℕ) → 0 < length text → word_length false text ≡ Some (length text) → is_word text ≡ true
word_is [] some e = absurd (omega (arith, some))
word_is (b ∷ rest) some e = ap (λ (o : Option ℕ). is_whole o (suc (length rest))) e ∙ eq-eqb (suc (length rest)) (suc (length rest)) refl

-- a bare word
sound_word : (text : List ℕ) (at : ℕ) (t : Token) → IsUtf8 text → at < length text → IsCharBoundary text at → ends_word (slice_index text at) ≡ false → word_at text at ≡ Some t → IsSoundToken text t
unfolding word_at
sound_word text at t u below start full e = go (word_length false (drop at text)) refl e
  where
    here : (n : ℕ) → word_length false (drop at text) ≡ Some n → IsSoundToken text (token kind.Word at n)
    here n f =
        let cut = word_cut false (drop at text) n f in
        let left : length (drop at text) ≡ length text - at = length-drop at text in
        let some : 0 < n = rw f at (word_length_some text at below full) in
        let stop : IsCharBoundary text (at + n) = by_end n cut left in
        let len : at + n - at ≡ n = omega arith in
        let size : length (take n (drop at text)) ≡ n = omega (arith, length-take n (drop at text), cut.within) in
        let utf8 : IsUtf8 (take n (drop at text)) = rw len at (IsUtf8-between text at (at + n) u (omega arith) start stop) in
        let word : is_word (take n (drop at text)) ≡ true = word_is (take n (drop at text)) (omega (arith, size, some)) (cut.whole ∙ ap Some (sym size)) in
        record { sound = rw len (word_sound (take n (drop at text)) (record { utf8 = utf8; word = word })); cut = stop }
      where
        by_end : (n : ℕ) → WordCut false (drop at text) n → length (drop at text) ≡ length text - at → IsCharBoundary text (at + n)
        by_end n cut left = ⊎_elim
            (λ (h : at + n < length text).
            let low = ends_ascii (get_or (drop at text) n 0) (cut.ends (omega (arith, h, left))) in
            IsCharBoundary-before_ascii text (at + n) h (omega (arith, low, get_or-drop at text n 0)))
            (λ (h : length text ≤ at + n).
            let whole : length text ≡ at + n = omega (arith, h, left, cut.within, below) in
            subst (IsCharBoundary text) whole (IsCharBoundary-end text))
            (cases_lt (at + n) (length text))

    go : (o : Option ℕ) → word_length false (drop at text) ≡ o → option_map (λ len. token kind.Word at len) o ≡ Some t → IsSoundToken text t
    go None f g = cc
    go (Some n) f g = subst (IsSoundToken text) (some_one (token kind.Word at n) t g) (here n f)

-- one token
sound_token : (text : List ℕ) (at : ℕ) (t : Token) → IsUtf8 text → at < length text → IsCharBoundary text at → is_space (slice_index text at) ≡ false → token_at text at ≡ Some t → IsSoundToken text t
unfolding token_at
sound_token text at t u below start full e =
    let b = slice_index text at in
    let is : (k : ℕ) → (b == k) ≡ true → b ≡ k = λ k h. eqb-true b k h in
    let at_word = λ (o : (b == 40) ≡ false) (c : (b == 41) ≡ false) (l : (b == 47) ≡ false) (m : (b == 61) ≡ false) (s : (b == 60) ≡ false) (g : (b == 62) ≡ false) (q : (b == 34) ≡ false) (f : word_at text at ≡ Some t). sound_word text at t u below start (is_full b full o c l m s g q) f in
    either (b == 40) _ _ t (λ h f. subst (IsSoundToken text) (some_one _ t f) (sound_one text kind.Open at 40 u below (omega arith) (is 40 h) tt)) (λ o.
    either (b == 41) _ _ t (λ h f. subst (IsSoundToken text) (some_one _ t f) (sound_one text kind.Close at 41 u below (omega arith) (is 41 h) tt)) (λ c.
    either (b == 47) _ _ t (λ h f. subst (IsSoundToken text) (some_one _ t f) (sound_one text kind.Slash at 47 u below (omega arith) (is 47 h) tt)) (λ l.
    either (b == 61) _ _ t (λ h f. subst (IsSoundToken text) (some_one _ t f) (sound_equal text at u below (is 61 h))) (λ m.
    either (b == 60) _ _ t (λ h f. subst (IsSoundToken text) (some_one _ t f) (sound_less text at u below (is 60 h))) (λ s.
    either (b == 62) _ _ t (λ h f. subst (IsSoundToken text) (some_one _ t f) (sound_greater text at u below (is 62 h))) (λ g.
    either (b == 34) _ _ t (λ h f. sound_quoted text at t u below (is 34 h) f) (λ q. at_word o c l m s g q))))))) e

-- white space ends with some
spaces_last : (xs : List ℕ) (k : ℕ) → spaces xs ≡ suc k → (k < length xs) × (is_space (get_or xs k 0) ≡ true)
spaces_last [] k h = absurd (omega (arith, h))
spaces_last (b ∷ xs) k h = go (is_space b) refl h (λ (j : ℕ) (e : spaces xs ≡ suc j). spaces_last xs j e) k h
  where
    at_last : (s k : ℕ) → is_space b ≡ true → spaces xs ≡ s → suc s ≡ suc k → ((j : ℕ) → spaces xs ≡ suc j → (j < length xs) × (is_space (get_or xs j 0) ≡ true)) → (k < suc (length xs)) × (is_space (get_or (b ∷ xs) k 0) ≡ true)
    at_last zero zero e f g more = (omega arith, e)
    at_last zero (suc k) e f g more = absurd (omega (arith, g))
    at_last (suc s) zero e f g more = absurd (omega (arith, g))
    at_last (suc s) (suc k) e f g more = let w = more k (omega (arith, f, g)) in (omega (arith, w.0), w.1)

    go : (space : Bool) → is_space b ≡ space → spaces (b ∷ xs) ≡ suc k → ((j : ℕ) → spaces xs ≡ suc j → (j < length xs) × (is_space (get_or xs j 0) ≡ true)) → (k : ℕ) → spaces (b ∷ xs) ≡ suc k → (k < suc (length xs)) × (is_space (get_or (b ∷ xs) k 0) ≡ true)
    go true e h more k f = let g : suc (spaces xs) ≡ suc k = rw e at f in at_last (spaces xs) k e refl g more
    go false e h more k f = let g : 0 ≡ suc k = rw e at f in absurd (omega (arith, g))

space_ends : (b : ℕ) → is_space b ≡ true → ends_word b ≡ true
space_ends b h = rw h refl

-- a text may be cut behind its white space
cut_next : (text : List ℕ) (at : ℕ) → IsUtf8 text → IsCharBoundary text at → IsCharBoundary text (next_start text at)
unfolding next_start
cut_next text at u cut = go (spaces (drop at text)) refl
  where
    go : (n : ℕ) → spaces (drop at text) ≡ n → IsCharBoundary text (at + spaces (drop at text))
    go zero e = let same : at ≡ at + spaces (drop at text) = omega (arith, e) in subst (IsCharBoundary text) same cut
    go (suc k) e =
        let w = spaces_last (drop at text) k e in
        let left : at + k < length text = omega (arith, w.0, length-drop at text) in
        let low = ends_ascii (get_or (drop at text) k 0) (space_ends (get_or (drop at text) k 0) w.1) in
        let same : at + k + 1 ≡ at + spaces (drop at text) = omega (arith, e) in
        subst (IsCharBoundary text) same (IsCharBoundary-after_ascii text (at + k) u left (omega (arith, low, get_or-drop at text k 0)))

-- the lexemes of a text are sound
all_sound : (text : List ℕ) (at : ℕ) (ts : List Token) (end : ℕ) → IsUtf8 text → IsCharBoundary text at → LeadsTo text at ts end → AllSound (lexemes text ts)
all_sound text at [] end u cut l = tt
all_sound text at (t ∷ ts) end u cut l =
    let one = sound_token text (next_start text at) t u l.0.within (cut_next text at u cut) (next_full text at l.0.within) l.0.token in
    (one.sound, all_sound text t.end ts end u one.cut l.1)

-- the lexemes of a text that is UTF-8 are sound
pub text_sound : (text : List ℕ) (ts : List Token) → IsUtf8 text → AreTokens text ts → AllSound (lexemes text ts)
text_sound text ts u h = all_sound text 0 ts h.0 u (IsCharBoundary-start text u) h.1
