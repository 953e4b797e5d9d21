-- The tokens of octets, wherever in a text they stand: one in front, and those behind it.
use Rattle.std.proofs.Common.{◌≡◌, ℕ, ◌+◌, ◌-◌, ◌<◌, ◌≤◌, true, List, [], ◌∷◌, ◌++◌, length, slice_index, get_or, drop, Some, refl, sym, ◌∙◌, ap, arith, length-append, length-drop, drop-drop, get_or-drop}
use Rattle.std.proofs.Math.Seq.{drop-append_seam, take-append_seam}
use Rattle.cql_lex.specs.declared.token.Token.{Token}
use Rattle.cql_lex.specs.declared.token.Kind.{Kind}
use Rattle.cql_lex.specs.Characters.{is_space, spaces}
use Rattle.cql_lex.specs.Tokens.{token, LeadsTo, next_start, token_at}
use Rattle.cql_parse.specs.Lexemes.{Lexeme, between, lexeme_of, lexemes}

-- from this offset on the text has these lexemes and nothing else
pub record HasLexemes (text : List ℕ) (at : ℕ) (ls : List Lexeme) : Type 0 where
  pub ts : List Token
  pub end : ℕ
  pub leads : LeadsTo text at ts end
  pub ends : next_start text end ≡ length text
  pub same : lexemes text ts ≡ ls

-- octets with these lexemes at the end of any text
pub record Lexed (octets : List ℕ) (ls : List Lexeme) : Type 0 where
  pub anywhere : (text : List ℕ) (at : ℕ) → drop at text ≡ octets → at ≤ length text → HasLexemes text at ls

-- what is left behind some octets
pub drop_behind : (text : List ℕ) (at : ℕ) (octets rest : List ℕ) → drop at text ≡ octets ++ rest → drop (at + length octets) text ≡ rest
drop_behind text at octets rest e = sym (drop-drop (length octets) at text) ∙ ap (λ (s : List ℕ). drop (length octets) s) e ∙ drop-append_seam octets rest

-- as many octets as are left
pub drop_len : (text : List ℕ) (at : ℕ) (rest : List ℕ) → drop at text ≡ rest → length text - at ≡ length rest
drop_len text at rest e = sym (length-drop at text) ∙ ap length e

-- an octet of what is left
pub octet_at : (text : List ℕ) (at k : ℕ) (rest : List ℕ) → drop at text ≡ rest → slice_index text (at + k) ≡ get_or rest k 0
octet_at text at k rest e = sym (get_or-drop at text k 0) ∙ ap (λ (s : List ℕ). get_or s k 0) e

-- the first octet of what is left
pub first_at : (text : List ℕ) (at b : ℕ) (rest : List ℕ) → drop at text ≡ b ∷ rest → slice_index text at ≡ b
first_at text at b rest e =
    let zero_more : at + 0 ≡ at = omega arith in
    ap (λ (i : ℕ). slice_index text i) (sym zero_more) ∙ octet_at text at 0 (b ∷ rest) e

-- the next token starts behind the white space of what is left
pub start_at : (text : List ℕ) (at : ℕ) (rest : List ℕ) → drop at text ≡ rest → next_start text at ≡ at + spaces rest
unfolding next_start
start_at text at rest e = ap (λ (s : List ℕ). at + spaces s) e

-- no octets have no lexemes
pub lexed_none : Lexed [] []
lexed_none = record {
  anywhere = λ text at e within. record {
    ts = [];
    end = at;
    leads = refl;
    ends = start_at text at [] e ∙ (let l = drop_len text at [] e in omega (arith, l, within));
    same = refl;
  };
}

-- from white space on the next token starts where it starts behind it
space_next : (text : List ℕ) (at b : ℕ) (rest : List ℕ) → drop at text ≡ b ∷ rest → is_space b ≡ true → next_start text at ≡ next_start text (at + 1)
space_next text at b rest e s =
    let behind = drop_behind text at (b ∷ []) rest e in
    let more : at + spaces (b ∷ rest) ≡ (at + 1) + spaces rest = rw s (omega arith) in
    start_at text at (b ∷ rest) e ∙ more ∙ sym (start_at text (at + 1) rest behind)

passed : (text : List ℕ) (at : ℕ) (ls : List Lexeme) → next_start text at ≡ next_start text (at + 1) → HasLexemes text (at + 1) ls → HasLexemes text at ls
passed text at ls e h = go h.ts h.leads h.same
  where
    go : (ts : List Token) → LeadsTo text (at + 1) ts h.end → lexemes text ts ≡ ls → HasLexemes text at ls
    go [] l same = record { ts = []; end = at; leads = refl; ends = e ∙ ap (next_start text) (sym l) ∙ h.ends; same = same }
    go (t ∷ ts) l same = record { ts = t ∷ ts; end = h.end; leads = (record { within = rw e l.0.within; token = rw e l.0.token }, l.1); ends = h.ends; same = same }

-- white space has no lexeme
pub lexed_space : (b : ℕ) (rest : List ℕ) (ls : List Lexeme) → is_space b ≡ true → Lexed rest ls → Lexed (b ∷ rest) ls
lexed_space b rest ls s h = record {
  anywhere = λ text at e within.
      let l = drop_len text at (b ∷ rest) e in
      passed text at ls (space_next text at b rest e s) (h.anywhere text (at + 1) (drop_behind text at (b ∷ []) rest e) (omega (arith, l)));
}

-- the token at the front of octets is of this kind and length, and this lexeme
pub record Fronts (kind : Kind) (octets rest : List ℕ) (x : Lexeme) : Type 0 where
  pub some : 0 < length octets
  pub no_space : spaces (octets ++ rest) ≡ 0
  pub is_token : (text : List ℕ) (at : ℕ) → drop at text ≡ octets ++ rest → token_at text at ≡ Some (token kind at (length octets))
  pub is_lexeme : (text : List ℕ) (at : ℕ) → drop at text ≡ octets ++ rest → lexeme_of text (token kind at (length octets)) ≡ x

-- a token in front, and the lexemes behind it
pub lexed_front : (kind : Kind) (octets rest : List ℕ) (x : Lexeme) (ls : List Lexeme) → Fronts kind octets rest x → Lexed rest ls → Lexed (octets ++ rest) (x ∷ ls)
lexed_front kind octets rest x ls f h = record {
  anywhere = λ text at e within.
      let t = token kind at (length octets) in
      let l : length text - at ≡ length octets + length rest = drop_len text at (octets ++ rest) e ∙ length-append octets rest in
      let here : next_start text at ≡ at = start_at text at (octets ++ rest) e ∙ (rw f.no_space (omega arith)) in
      let more = h.anywhere text (at + length octets) (drop_behind text at octets rest e) (omega (arith, l, within, f.some)) in
      record {
        ts = t ∷ more.ts;
        end = more.end;
        leads = (record { within = rw here (omega (arith, l, f.some)); token = rw here (f.is_token text at e) }, more.leads);
        ends = more.ends;
        same = (λ i. f.is_lexeme text at e i ∷ more.same i);
      };
}

-- the octets at the front
pub between_front : (text : List ℕ) (at : ℕ) (octets rest : List ℕ) → drop at text ≡ octets ++ rest → between text at (at + length octets) ≡ octets
between_front text at octets rest e =
    let len : at + length octets - at ≡ length octets = omega arith in
    rw (len, e, take-append_seam octets rest) refl
