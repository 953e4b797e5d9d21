-- Where strings and bare words end, whatever octets follow.
use Rattle.std.proofs.Common.{◌≡◌, ℕ, suc, ◌<◌, ◌≤◌, ◌==◌, Bool, true, false, List, [], ◌∷◌, ◌++◌, length, get_or, take, Option, Some, None, option_map, refl, sym, ◌∙◌, subst, ap, arith}
use Rattle.std.proofs.lemmas.Bool.{false≢true, eqb-true}
use Rattle.cql_lex.specs.Characters.{is_space, ends_word, quoted_length, word_length, is_whole, is_word}
use Rattle.cql_parse.specs.WellFormed.{IsQuotable}

-- a bare word ends before these octets
abbrev pub ends_before : List ℕ → Bool
ends_before [] = true
ends_before (b ∷ rest) = ends_word b

-- no number is none
no_number : {A : Type 0} (n : ℕ) → None ≡ Some n → A
no_number n e = cc

-- one more of a number that is there
pub suc_some : (o : Option ℕ) (n : ℕ) → option_map suc o ≡ Some n → (k : ℕ) × (o ≡ Some k) × (n ≡ suc k)
suc_some None n e = cc
suc_some (Some k) n e = (k, refl, cc)

-- a test goes one of two ways
pub by_test : {A : Type 0} (b : Bool) → (b ≡ true → A) → (b ≡ false → A) → A
by_test true holds fails = holds refl
by_test false holds fails = fails refl

-- a string up to its last quote, with any octets behind it
pub record QuotedCut (taken : Bool) (s : List ℕ) (n : ℕ) : Type 0 where
  pub len : ℕ
  pub one_more : n ≡ suc len
  pub within : len < length s
  pub quote : get_or s len 0 ≡ 34
  pub closes : (rest : List ℕ) → quoted_length taken (take len s ++ 34 ∷ rest) ≡ Some n

quoted_on : (taken next : Bool) (b : ℕ) (s : List ℕ) (n : ℕ) → ((rest : List ℕ) → quoted_length taken (b ∷ rest) ≡ option_map suc (quoted_length next rest)) → ((m : ℕ) → quoted_length next s ≡ Some m → QuotedCut next s m) → quoted_length taken (b ∷ s) ≡ Some n → QuotedCut taken (b ∷ s) n
quoted_on taken next b s n goes more e =
    let w = suc_some (quoted_length next s) n (sym (goes s) ∙ e) in
    let cut = more w.0 w.1 in
    record {
      len = suc cut.len;
      one_more = w.2 ∙ ap suc cut.one_more;
      within = omega (arith, cut.within);
      quote = cut.quote;
      closes = λ rest. goes (take cut.len s ++ 34 ∷ rest) ∙ ap (option_map suc) (cut.closes rest) ∙ ap Some (sym w.2);
    }

-- a string that ends in these octets ends so whatever follows its quote
pub quoted_cut : (taken : Bool) (s : List ℕ) (n : ℕ) → quoted_length taken s ≡ Some n → QuotedCut taken s n
quoted_cut taken [] n e = no_number n e
quoted_cut true (b ∷ s) n e = quoted_on true false b s n (λ rest. refl) (λ m. quoted_cut false s m) e
quoted_cut false (b ∷ s) n e = go (b == 34) refl (λ (m : ℕ) (f : quoted_length (b == 92) s ≡ Some m). quoted_cut (b == 92) s m f)
  where
    go : (last : Bool) → (b == 34) ≡ last → ((m : ℕ) → quoted_length (b == 92) s ≡ Some m → QuotedCut (b == 92) s m) → QuotedCut false (b ∷ s) n
    go true h more =
        let one : Some 1 ≡ Some n = rw h at e in
        let same : 1 ≡ n = cc in
        record { len = 0; one_more = sym same; within = omega arith; quote = eqb-true b 34 h; closes = λ rest. ap Some same }
    go false h more = quoted_on false (b == 92) b s n (λ rest. rw h refl) more e

-- a bare word up to its end
pub record WordCut (taken : Bool) (s : List ℕ) (n : ℕ) : Type 0 where
  pub within : n ≤ length s
  pub ends : n < length s → ends_word (get_or s n 0) ≡ true
  pub whole : word_length taken (take n s) ≡ Some n

word_on : (taken next : Bool) (b : ℕ) (s : List ℕ) (n : ℕ) → ((rest : List ℕ) → word_length taken (b ∷ rest) ≡ option_map suc (word_length next rest)) → ((m : ℕ) → word_length next s ≡ Some m → WordCut next s m) → word_length taken (b ∷ s) ≡ Some n → WordCut taken (b ∷ s) n
word_on taken next b s n goes more e =
    let w = suc_some (word_length next s) n (sym (goes s) ∙ e) in
    let cut = more w.0 w.1 in
    subst (WordCut taken (b ∷ s)) (sym w.2) (record {
      within = omega (arith, cut.within);
      ends = λ below. cut.ends (omega (arith, below));
      whole = goes (take w.0 s) ∙ ap (option_map suc) cut.whole;
    })

-- the longest word in front of octets is a whole one
pub word_cut : (taken : Bool) (s : List ℕ) (n : ℕ) → word_length taken s ≡ Some n → WordCut taken s n
word_cut true [] n e = no_number n e
word_cut false [] n e =
    let f : Some 0 ≡ Some n = e in
    let same : 0 ≡ n = cc in
    subst (WordCut false []) same (record { within = omega arith; ends = λ below. absurd (omega (arith, below)); whole = refl })
word_cut true (b ∷ s) n e = word_on true false b s n (λ rest. refl) (λ m. word_cut false s m) e
word_cut false (b ∷ s) n e = go (ends_word b) refl (λ (m : ℕ) (f : word_length (b == 92) s ≡ Some m). word_cut (b == 92) s m f)
  where
    go : (last : Bool) → ends_word b ≡ last → ((m : ℕ) → word_length (b == 92) s ≡ Some m → WordCut (b == 92) s m) → WordCut false (b ∷ s) n
    go true h more =
        let none : Some 0 ≡ Some n = rw h at e in
        let same : 0 ≡ n = cc in
        subst (WordCut false (b ∷ s)) same (record { within = omega arith; ends = λ below. h; whole = refl })
    go false h more = word_on false (b == 92) b s n (λ rest. rw h refl) more e

-- a word ends where something comes that ends words
pub word_before : (taken : Bool) (text rest : List ℕ) → word_length taken text ≡ Some (length text) → ends_before rest ≡ true → word_length taken (text ++ rest) ≡ Some (length text)
word_before true [] rest e h = no_number 0 e
word_before false [] [] e h = refl
word_before false [] (b ∷ rest) e h = rw h refl
word_before true (b ∷ text) rest e h =
    let w = suc_some (word_length false text) (suc (length text)) e in
    let same : w.0 ≡ length text = omega (arith, w.2) in
    ap (option_map suc) (word_before false text rest (w.1 ∙ ap Some same) h)
word_before false (b ∷ text) rest e h = go (ends_word b) refl (λ (f : word_length (b == 92) text ≡ Some (length text)). word_before (b == 92) text rest f h)
  where
    go : (last : Bool) → ends_word b ≡ last → (word_length (b == 92) text ≡ Some (length text) → word_length (b == 92) (text ++ rest) ≡ Some (length text)) → word_length false (b ∷ (text ++ rest)) ≡ Some (suc (length text))
    go true f more = let z : Some 0 ≡ Some (suc (length text)) = rw f at e in cc
    go false f more =
        let g : option_map suc (word_length (b == 92) text) ≡ Some (suc (length text)) = rw f at e in
        let w = suc_some (word_length (b == 92) text) (suc (length text)) g in
        let same : w.0 ≡ length text = omega (arith, w.2) in
        rw f (ap (option_map suc) (more (w.1 ∙ ap Some same)))

-- an octet that ends no word is none that ends words
pub no_end : (b end : ℕ) → ends_word end ≡ true → ends_word b ≡ false → (b == end) ≡ false
no_end b end ends h = go (b == end) refl
  where
    go : (same : Bool) → (b == end) ≡ same → (b == end) ≡ false
    go true e = absurd (false≢true (sym h ∙ ap ends_word (eqb-true b end e) ∙ ends))
    go false e = e

-- white space ends words
pub no_space : (b : ℕ) → ends_word b ≡ false → is_space b ≡ false
no_space b h = go (is_space b) refl h
  where
    go : (space : Bool) → is_space b ≡ space → ends_word b ≡ false → is_space b ≡ false
    go true e f = let z : true ≡ false = rw e at f in cc
    go false e f = e

-- a word may stand between quotes
word_closes : (taken : Bool) (text rest : List ℕ) → word_length taken text ≡ Some (length text) → quoted_length taken (text ++ 34 ∷ rest) ≡ Some (suc (length text))
word_closes true [] rest e = no_number 0 e
word_closes false [] rest e = refl
word_closes true (b ∷ text) rest e =
    let w = suc_some (word_length false text) (suc (length text)) e in
    let same : w.0 ≡ length text = omega (arith, w.2) in
    ap (option_map suc) (word_closes false text rest (w.1 ∙ ap Some same))
word_closes false (b ∷ text) rest e = go (ends_word b) refl (λ (f : word_length (b == 92) text ≡ Some (length text)). word_closes (b == 92) text rest f)
  where
    go : (last : Bool) → ends_word b ≡ last → (word_length (b == 92) text ≡ Some (length text) → quoted_length (b == 92) (text ++ 34 ∷ rest) ≡ Some (suc (length text))) → quoted_length false (b ∷ (text ++ 34 ∷ rest)) ≡ Some (suc (suc (length text)))
    go true f more = let z : Some 0 ≡ Some (suc (length text)) = rw f at e in cc
    go false f more =
        let g : option_map suc (word_length (b == 92) text) ≡ Some (suc (length text)) = rw f at e in
        let w = suc_some (word_length (b == 92) text) (suc (length text)) g in
        let same : w.0 ≡ length text = omega (arith, w.2) in
        let other = no_end b 34 refl f in
        rw other (ap (option_map suc) (more (w.1 ∙ ap Some same)))

-- one bare word is as long as its octets
pub whole_word : (text : List ℕ) → is_word text ≡ true → word_length false text ≡ Some (length text)
whole_word [] h = cc
whole_word (b ∷ rest) h = go (word_length false (b ∷ rest)) refl
  where
    go : (o : Option ℕ) → word_length false (b ∷ rest) ≡ o → word_length false (b ∷ rest) ≡ Some (suc (length rest))
    go None e = let f : is_whole None (suc (length rest)) ≡ true = subst (λ (x : Option ℕ). is_whole x (suc (length rest)) ≡ true) e h in cc
    go (Some n) e =
        let f : is_whole (Some n) (suc (length rest)) ≡ true = subst (λ (x : Option ℕ). is_whole x (suc (length rest)) ≡ true) e h in
        e ∙ ap Some (eqb-true n (suc (length rest)) f)

-- what is one bare word may stand between quotes
pub word_quotable : (text : List ℕ) → is_word text ≡ true → IsQuotable text
word_quotable text h = record { closes = λ rest. word_closes false text rest (whole_word text h) }

-- the octet that a word begins with ends none
pub word_first : (b : ℕ) (rest : List ℕ) → is_word (b ∷ rest) ≡ true → ends_word b ≡ false
word_first b rest h = go (ends_word b) refl (whole_word (b ∷ rest) h)
  where
    go : (last : Bool) → ends_word b ≡ last → word_length false (b ∷ rest) ≡ Some (suc (length rest)) → ends_word b ≡ false
    go true e f = let z : Some 0 ≡ Some (suc (length rest)) = rw e at f in cc
    go false e f = e
