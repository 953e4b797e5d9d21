-- Lexemes written out: signs, strings and bare words, with what may follow each.
use Rattle.std.proofs.Common.{◌≡◌, ℕ, suc, ◌+◌, ◌-◌, ◌<◌, ◌==◌, true, false, if◌then◌else◌, bytes_eq, List, [], ◌∷◌, ◌++◌, length, slice_index, drop, Some, option_map, refl, ◌∙◌, ap, arith, length-append, append_assoc}
use Rattle.std.proofs.lemmas.Bool.{false≢true}
use Rattle.std.proofs.Math.Seq.{take-append_seam}
use Rattle.cql_lex.specs.declared.token.Kind.{Kind}
use Rattle.cql_lex.specs.declared.token.Kind.TheVariants as kind
use Rattle.cql_lex.specs.Characters.{is_space, spaces, is_word}
use Rattle.cql_lex.specs.Tokens.{token, token_at, quoted_at, word_at}
use Rattle.cql_parse.specs.declared.lexeme.Class.{Class}
use Rattle.cql_parse.specs.declared.lexeme.Class.TheVariants as class
use Rattle.cql_parse.specs.Classes.{class_of, word_class}
use Rattle.cql_parse.specs.Lexemes.{Lexeme, between, text_of}
use Rattle.cql_parse.proofs.Fronts.{Lexed, Fronts, lexed_front, drop_behind, octet_at, first_at, between_front}
use Rattle.cql_parse.proofs.Cuts.{ends_before, word_before, no_end, no_space, whole_word, word_first}
use Rattle.cql_parse.specs.Written.{quoted}
use Rattle.cql_parse.specs.WellFormed.{IsQuotable, IsSymbolText, equal, exact, less, greater, less_or_equal, greater_or_equal, less_or_greater}

-- a symbol by its octets
abbrev pub sign_class : List ℕ → Class
sign_class text = if bytes_eq text (61 ∷ []) then class.Equal else (if bytes_eq text (62 ∷ []) then class.Greater else class.Symbol)

abbrev pub sign_lexeme : List ℕ → Lexeme
sign_lexeme text = record { class = sign_class text; text = text }

abbrev pub word_lexeme : List ℕ → Lexeme
word_lexeme text = record { class = word_class text; text = text }

abbrev pub quoted_lexeme : List ℕ → Lexeme
quoted_lexeme text = record { class = class.Quoted; text = text }

abbrev pub open_lexeme : Lexeme
open_lexeme = record { class = class.Open; text = 40 ∷ [] }

abbrev pub close_lexeme : Lexeme
close_lexeme = record { class = class.Close; text = 41 ∷ [] }

abbrev pub slash_lexeme : Lexeme
slash_lexeme = record { class = class.Slash; text = 47 ∷ [] }

-- a kind whose tokens stand as they are
abbrev IsPlain : Kind → Type 0
IsPlain kind = (text : List ℕ) (start end : ℕ) → text_of text kind start end ≡ between text start end

plain_fronts : (kind : Kind) (octets rest : List ℕ) → IsPlain kind → 0 < length octets → spaces (octets ++ rest) ≡ 0 → ((text : List ℕ) (at : ℕ) → drop at text ≡ octets ++ rest → token_at text at ≡ Some (token kind at (length octets))) → Fronts kind octets rest (record { class = class_of kind octets; text = octets })
plain_fronts kind octets rest plain some no_space is_token = record {
  some = some;
  no_space = no_space;
  is_token = is_token;
  is_lexeme = λ text at e.
      let here : text_of text kind at (at + length octets) ≡ octets = plain text at (at + length octets) ∙ between_front text at octets rest e in
      λ i. record { class = class_of kind (here i); text = here i };
}

-- an opening bracket, whatever follows
pub lexed_open : (rest : List ℕ) (ls : List Lexeme) → Lexed rest ls → Lexed (40 ∷ rest) (open_lexeme ∷ ls)
unfolding token_at
lexed_open rest ls h = lexed_front kind.Open (40 ∷ []) rest open_lexeme ls (plain_fronts kind.Open (40 ∷ []) rest (λ t s e. refl) (omega arith) refl (λ text at e. let first = first_at text at 40 rest e in rw first refl)) h

-- a closing bracket, whatever follows
pub lexed_close : (rest : List ℕ) (ls : List Lexeme) → Lexed rest ls → Lexed (41 ∷ rest) (close_lexeme ∷ ls)
unfolding token_at
lexed_close rest ls h = lexed_front kind.Close (41 ∷ []) rest close_lexeme ls (plain_fronts kind.Close (41 ∷ []) rest (λ t s e. refl) (omega arith) refl (λ text at e. let first = first_at text at 41 rest e in rw first refl)) h

-- a slash, whatever follows
pub lexed_slash : (rest : List ℕ) (ls : List Lexeme) → Lexed rest ls → Lexed (47 ∷ rest) (slash_lexeme ∷ ls)
unfolding token_at
lexed_slash rest ls h = lexed_front kind.Slash (47 ∷ []) rest slash_lexeme ls (plain_fronts kind.Slash (47 ∷ []) rest (λ t s e. refl) (omega arith) refl (λ text at e. let first = first_at text at 47 rest e in rw first refl)) h

-- a symbol of one octet, and of two
sign_one : (kind : Kind) (a b : ℕ) (rest : List ℕ) → IsPlain kind → is_space a ≡ false → ((text : List ℕ) (at : ℕ) → slice_index text at ≡ a → slice_index text (at + 1) ≡ b → token_at text at ≡ Some (token kind at 1)) → Fronts kind (a ∷ []) (b ∷ rest) (record { class = class_of kind (a ∷ []); text = a ∷ [] })
sign_one kind a b rest plain full is_token =
    plain_fronts kind (a ∷ []) (b ∷ rest) plain (omega arith) (rw full refl) (λ text at e. is_token text at (first_at text at a (b ∷ rest) e) (octet_at text at 1 (a ∷ b ∷ rest) e))

sign_two : (kind : Kind) (a b : ℕ) (rest : List ℕ) → IsPlain kind → is_space a ≡ false → ((text : List ℕ) (at : ℕ) → slice_index text at ≡ a → slice_index text (at + 1) ≡ b → token_at text at ≡ Some (token kind at 2)) → Fronts kind (a ∷ b ∷ []) rest (record { class = class_of kind (a ∷ b ∷ []); text = a ∷ b ∷ [] })
sign_two kind a b rest plain full is_token =
    plain_fronts kind (a ∷ b ∷ []) rest plain (omega arith) (rw full refl) (λ text at e. is_token text at (first_at text at a (b ∷ rest) e) (octet_at text at 1 (a ∷ b ∷ rest) e))

-- a symbol that no octet of a symbol follows
pub lexed_sign : (sign : List ℕ) → IsSymbolText sign → (b : ℕ) (rest : List ℕ) (ls : List Lexeme) → (b == 61) ≡ false → (b == 62) ≡ false → Lexed (b ∷ rest) ls → Lexed (sign ++ b ∷ rest) (sign_lexeme sign ∷ ls)
unfolding token_at
lexed_sign sign equal b rest ls n m h = lexed_front kind.Equal (61 ∷ []) (b ∷ rest) (sign_lexeme (61 ∷ [])) ls (sign_one kind.Equal 61 b rest (λ t s e. refl) refl (λ text at first next. rw (first, next, n) refl)) h
lexed_sign sign less b rest ls n m h = lexed_front kind.Less (60 ∷ []) (b ∷ rest) (sign_lexeme (60 ∷ [])) ls (sign_one kind.Less 60 b rest (λ t s e. refl) refl (λ text at first next. rw (first, next, n, m) refl)) h
lexed_sign sign greater b rest ls n m h = lexed_front kind.Greater (62 ∷ []) (b ∷ rest) (sign_lexeme (62 ∷ [])) ls (sign_one kind.Greater 62 b rest (λ t s e. refl) refl (λ text at first next. rw (first, next, n) refl)) h
lexed_sign sign exact b rest ls n m h = lexed_front kind.Exact (61 ∷ 61 ∷ []) (b ∷ rest) (sign_lexeme (61 ∷ 61 ∷ [])) ls (sign_two kind.Exact 61 61 (b ∷ rest) (λ t s e. refl) refl (λ text at first next. rw (first, next) refl)) h
lexed_sign sign less_or_equal b rest ls n m h = lexed_front kind.LessOrEqual (60 ∷ 61 ∷ []) (b ∷ rest) (sign_lexeme (60 ∷ 61 ∷ [])) ls (sign_two kind.LessOrEqual 60 61 (b ∷ rest) (λ t s e. refl) refl (λ text at first next. rw (first, next) refl)) h
lexed_sign sign greater_or_equal b rest ls n m h = lexed_front kind.GreaterOrEqual (62 ∷ 61 ∷ []) (b ∷ rest) (sign_lexeme (62 ∷ 61 ∷ [])) ls (sign_two kind.GreaterOrEqual 62 61 (b ∷ rest) (λ t s e. refl) refl (λ text at first next. rw (first, next) refl)) h
lexed_sign sign less_or_greater b rest ls n m h = lexed_front kind.LessOrGreater (60 ∷ 62 ∷ []) (b ∷ rest) (sign_lexeme (60 ∷ 62 ∷ [])) ls (sign_two kind.LessOrGreater 60 62 (b ∷ rest) (λ t s e. refl) refl (λ text at first next. rw (first, next) refl)) h

-- the token of a string
quoted_fronts : (text rest : List ℕ) → IsQuotable text → Fronts kind.Quoted (quoted text) rest (quoted_lexeme text)
unfolding token_at quoted_at
quoted_fronts text rest q =
    let len : length (quoted text) ≡ length text + 2 = omega (arith, length-append text (34 ∷ [])) in
    let shape : quoted text ++ rest ≡ 34 ∷ text ++ 34 ∷ rest = ap (λ (s : List ℕ). 34 ∷ s) (append_assoc text (34 ∷ []) rest) in
    record {
      some = omega arith;
      no_space = refl;
      is_token = λ all at e.
          let first = first_at all at 34 ((text ++ 34 ∷ []) ++ rest) e in
          let behind = drop_behind all at (34 ∷ []) (text ++ 34 ∷ rest) (e ∙ shape) in
          let whole : suc (length text) + 1 ≡ length (quoted text) = omega (arith, len) in
          rw (first, behind, q.closes rest) (ap (λ (n : ℕ). Some (token kind.Quoted at n)) whole);
      is_lexeme = λ all at e.
          let behind = drop_behind all at (34 ∷ []) (text ++ 34 ∷ rest) (e ∙ shape) in
          let inner : at + length (quoted text) - 1 - (at + 1) ≡ length text = omega (arith, len) in
          let here : between all (at + 1) (at + length (quoted text) - 1) ≡ text = rw (inner, behind, take-append_seam text (34 ∷ rest)) refl in
          ap quoted_lexeme here;
    }

-- a string between quotes, whatever follows
pub lexed_quoted : (text rest : List ℕ) (ls : List Lexeme) → IsQuotable text → Lexed rest ls → Lexed (quoted text ++ rest) (quoted_lexeme text ∷ ls)
lexed_quoted text rest ls q h = lexed_front kind.Quoted (quoted text) rest (quoted_lexeme text) ls (quoted_fronts text rest q) h

-- the token of a bare word
word_fronts : (text rest : List ℕ) → is_word text ≡ true → ends_before rest ≡ true → Fronts kind.Word text rest (word_lexeme text)
unfolding token_at word_at
word_fronts [] rest h ends = absurd (false≢true h)
word_fronts (b ∷ more) rest h ends =
    let full = word_first b more h in
    let open_not = no_end b 40 refl full in
    let close_not = no_end b 41 refl full in
    let slash_not = no_end b 47 refl full in
    let equal_not = no_end b 61 refl full in
    let less_not = no_end b 60 refl full in
    let greater_not = no_end b 62 refl full in
    let quote_not = no_end b 34 refl full in
    plain_fronts kind.Word (b ∷ more) rest (λ t s e. refl) (omega arith) (rw (no_space b full) refl) (λ text at e.
    let first = first_at text at b (more ++ rest) e in
    let len = word_before false (b ∷ more) rest (whole_word (b ∷ more) h) ends in
    rw (first, open_not, close_not, slash_not, equal_not, less_not, greater_not, quote_not, e) (ap (option_map (λ (n : ℕ). token kind.Word at n)) len))

-- a bare word before what ends words
pub lexed_word : (text rest : List ℕ) (ls : List Lexeme) → is_word text ≡ true → ends_before rest ≡ true → Lexed rest ls → Lexed (text ++ rest) (word_lexeme text ∷ ls)
lexed_word text rest ls w ends h = lexed_front kind.Word text rest (word_lexeme text) ls (word_fronts text rest w ends) h
