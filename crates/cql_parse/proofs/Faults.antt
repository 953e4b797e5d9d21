-- Where tokens stop being the beginning of a query, by what comes before.
use Rattle.std.proofs.Common.{◌≡◌, ℕ, suc, ◌+◌, ◌<◌, ◌≤◌, Bool, true, false, List, [], ◌∷◌, ◌++◌, length, take, Option, Some, None, option_map, if◌then◌else◌, refl, sym, ◌∙◌, subst, ap, arith}
use Rattle.cql_lex.specs.declared.token.Token.{Token}
use Rattle.cql_parse.specs.declared.first_fault.Phase.{Phase}
use Rattle.cql_parse.specs.declared.first_fault.Spot.{Spot}
use Rattle.cql_parse.specs.Lexemes.{Lexeme, lexemes}
use Rattle.cql_parse.specs.ParserPhases.{spot, step_of, ends_so, accepts, fault_at}

-- one token, and what comes behind it
pub accepts_some : (phase : Phase) (n : ℕ) (x : Lexeme) (rest : List Lexeme) (next : Spot) → step_of phase n x.class ≡ Some next → accepts phase n (x ∷ rest) ≡ accepts next.phase next.«open» rest
accepts_some phase n x rest next h = ap (λ (o : Option Spot). let r : Bool = elim o [ None ↦ false | Some s ↦ accepts s.phase s.«open» rest ] in r) h

pub accepts_none : (phase : Phase) (n : ℕ) (x : Lexeme) (rest : List Lexeme) → step_of phase n x.class ≡ None → accepts phase n (x ∷ rest) ≡ false
accepts_none phase n x rest h = ap (λ (o : Option Spot). let r : Bool = elim o [ None ↦ false | Some s ↦ accepts s.phase s.«open» rest ] in r) h

fault_at_some : (phase : Phase) (n : ℕ) (x : Lexeme) (rest : List Lexeme) (next : Spot) → step_of phase n x.class ≡ Some next → fault_at phase n (x ∷ rest) ≡ option_map suc (fault_at next.phase next.«open» rest)
fault_at_some phase n x rest next h = ap (λ (o : Option Spot). let r : Option ℕ = elim o [ None ↦ Some 0 | Some s ↦ option_map suc (fault_at s.phase s.«open» rest) ] in r) h

fault_at_none : (phase : Phase) (n : ℕ) (x : Lexeme) (rest : List Lexeme) → step_of phase n x.class ≡ None → fault_at phase n (x ∷ rest) ≡ Some 0
fault_at_none phase n x rest h = ap (λ (o : Option Spot). let r : Option ℕ = elim o [ None ↦ Some 0 | Some s ↦ option_map suc (fault_at s.phase s.«open» rest) ] in r) h

-- one more token is passed
pub fault_more : (phase : Phase) (n : ℕ) (x : Lexeme) (rest : List Lexeme) (next : Spot) (k : ℕ) → step_of phase n x.class ≡ Some next → option_map (λ at. k + at) (fault_at phase n (x ∷ rest)) ≡ option_map (λ at. (k + 1) + at) (fault_at next.phase next.«open» rest)
fault_more phase n x rest next k h = ap (λ (o : Option ℕ). option_map (λ at. k + at) o) (fault_at_some phase n x rest next h) ∙ go (fault_at next.phase next.«open» rest)
  where
    go : (o : Option ℕ) → option_map (λ at. k + at) (option_map suc o) ≡ option_map (λ at. (k + 1) + at) o
    go None = refl
    go (Some i) = ap Some (omega arith)

-- as many lexemes as tokens
pub lexemes_len : (text : List ℕ) (tokens : List Token) → length (lexemes text tokens) ≡ length tokens
lexemes_len text [] = refl
lexemes_len text (t ∷ ts) = ap suc (lexemes_len text ts)

pub rest_len : (text : List ℕ) (tokens rest : List Token) (x : Lexeme) → lexemes text tokens ≡ x ∷ lexemes text rest → length tokens ≡ length rest + 1
rest_len text tokens rest x e =
    let l : length (lexemes text tokens) ≡ length (x ∷ lexemes text rest) = ap length e in
    omega (arith, l, lexemes_len text tokens, lexemes_len text rest)

-- the first token with which no query goes on, or where they end too early: what is before it goes on to some
-- phase, and what goes on with it does not
pub record IsFault (phase : Phase) (n : ℕ) (ts : List Lexeme) (at : ℕ) : Type 0 where
  pub within : at ≤ length ts
  pub refused : at < length ts → (more : List Lexeme) → accepts phase n (take (suc at) ts ++ more) ≡ false
  pub unended : at ≡ length ts → accepts phase n ts ≡ false
  pub reached : Spot
  pub goes_on : (more : List Lexeme) → accepts phase n (take at ts ++ more) ≡ accepts reached.phase reached.«open» more

fault_step : (phase : Phase) (n : ℕ) (x : Lexeme) (rest : List Lexeme) (next : Spot) (at : ℕ) → step_of phase n x.class ≡ Some next → IsFault next.phase next.«open» rest at → IsFault phase n (x ∷ rest) (suc at)
fault_step phase n x rest next at h f = record {
  within = omega (arith, f.within);
  refused = λ below more. accepts_some phase n x (take (suc at) rest ++ more) next h ∙ f.refused (omega (arith, below)) more;
  unended = λ e. accepts_some phase n x rest next h ∙ f.unended (omega (arith, e));
  reached = f.reached;
  goes_on = λ more. accepts_some phase n x (take at rest ++ more) next h ∙ f.goes_on more;
}

fault_here : (phase : Phase) (n : ℕ) (x : Lexeme) (rest : List Lexeme) → step_of phase n x.class ≡ None → IsFault phase n (x ∷ rest) 0
fault_here phase n x rest h = record {
  within = omega arith;
  refused = λ below more. accepts_none phase n x more h;
  unended = λ e. absurd (omega (arith, e));
  reached = spot phase n;
  goes_on = λ more. refl;
}

fault_end : (phase : Phase) (n : ℕ) → ends_so phase n ≡ false → IsFault phase n [] 0
fault_end phase n h = record {
  within = omega arith;
  refused = λ below more. absurd (omega (arith, below));
  unended = λ e. h;
  reached = spot phase n;
  goes_on = λ more. refl;
}

pub fault_some : (ts : List Lexeme) (phase : Phase) (n at : ℕ) → fault_at phase n ts ≡ Some at → IsFault phase n ts at
fault_some [] phase n at e = go (ends_so phase n) refl e
  where
    go : (b : Bool) → ends_so phase n ≡ b → (if b then None else Some 0) ≡ Some at → IsFault phase n [] at
    go true h f = cc
    go false h f = let z : 0 ≡ at = cc in subst (IsFault phase n []) z (fault_end phase n h)
fault_some (x ∷ rest) phase n at e = go (step_of phase n x.class) refl (λ (next : Spot) (i : ℕ) (f : fault_at next.phase next.«open» rest ≡ Some i). fault_some rest next.phase next.«open» i f)
  where
    at_next : (next : Spot) → ((i : ℕ) → fault_at next.phase next.«open» rest ≡ Some i → IsFault next.phase next.«open» rest i) → step_of phase n x.class ≡ Some next → (o : Option ℕ) → fault_at next.phase next.«open» rest ≡ o → option_map suc o ≡ Some at → IsFault phase n (x ∷ rest) at
    at_next next ih h None f g = let clash : None ≡ Some at = g in cc
    at_next next ih h (Some i) f g =
        let same : suc i ≡ at = cc in
        subst (IsFault phase n (x ∷ rest)) same (fault_step phase n x rest next i h (ih i f))

    go : (o : Option Spot) → step_of phase n x.class ≡ o → ((next : Spot) (i : ℕ) → fault_at next.phase next.«open» rest ≡ Some i → IsFault next.phase next.«open» rest i) → IsFault phase n (x ∷ rest) at
    go None h ih =
        let z : Some 0 ≡ Some at = sym (fault_at_none phase n x rest h) ∙ e in
        let same : 0 ≡ at = cc in
        subst (IsFault phase n (x ∷ rest)) same (fault_here phase n x rest h)
    go (Some next) h ih = at_next next (ih next) h (fault_at next.phase next.«open» rest) refl (sym (fault_at_some phase n x rest next h) ∙ e)

-- without a fault tokens are accepted
pub fault_none : (ts : List Lexeme) (phase : Phase) (n : ℕ) → fault_at phase n ts ≡ None → accepts phase n ts ≡ true
fault_none [] phase n e = go (ends_so phase n) refl e
  where
    go : (b : Bool) → ends_so phase n ≡ b → if◌then◌else◌ {A = Option ℕ} b None (Some 0) ≡ None → ends_so phase n ≡ true
    go true h f = h
    go false h f = cc
fault_none (x ∷ rest) phase n e = go (step_of phase n x.class) refl (λ (next : Spot) (f : fault_at next.phase next.«open» rest ≡ None). fault_none rest next.phase next.«open» f)
  where
    at_next : (next : Spot) (o : Option ℕ) → fault_at next.phase next.«open» rest ≡ o → option_map suc o ≡ None → fault_at next.phase next.«open» rest ≡ None
    at_next next None f g = f
    at_next next (Some i) f g = cc

    go : (o : Option Spot) → step_of phase n x.class ≡ o → ((next : Spot) → fault_at next.phase next.«open» rest ≡ None → accepts next.phase next.«open» rest ≡ true) → accepts phase n (x ∷ rest) ≡ true
    go None h ih = let here : Option ℕ = Some 0 in let z : here ≡ None = sym (fault_at_none phase n x rest h) ∙ e in cc
    go (Some next) h ih = accepts_some phase n x rest next h ∙ ih next (at_next next (fault_at next.phase next.«open» rest) refl (sym (fault_at_some phase n x rest next h) ∙ e))
