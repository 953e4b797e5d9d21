-- The tokens of queries that CQL 1.2 prints as examples.
use Rattle.std.proofs.Common.{◌≡◌, ℕ, ◌<◌, List, [], ◌∷◌, length, codes, Some, arith, refl}
use Rattle.cql_lex.specs.declared.token.Kind.TheVariants.{Open, Close, Slash, Equal, Quoted, Word}
use Rattle.cql_lex.specs.declared.token.Token.{Token}
use Rattle.cql_lex.specs.Tokens.{token, token_at, quoted_at, word_at, next_start, AreTokens, IsNext}

-- the token that starts behind the white space
next : {text : List ℕ} {at : ℕ} {t : Token} → next_start text at < length text → token_at text (next_start text at) ≡ Some t → IsNext text at t
next within same = record { within = within; token = same }

words : AreTokens (codes "dc.title any fish") (token Word 0 8 ∷ token Word 9 3 ∷ token Word 13 4 ∷ [])
unfolding token_at word_at next_start
words = (17, (next (omega arith) refl, (next (omega arith) refl, (next (omega arith) refl, refl))), refl)

modified : AreTokens (codes "subject any /relevant \"fish frog\"") (token Word 0 7 ∷ token Word 8 3 ∷ token Slash 12 1 ∷ token Word 13 8 ∷ token Quoted 22 11 ∷ [])
unfolding token_at word_at quoted_at next_start
modified =
    (33, (next (omega arith) refl, (next (omega arith) refl, (next (omega arith) refl, (next (omega arith) refl, (next (omega arith) refl, refl))))), refl)

grouped : AreTokens (codes "(bib.dateIssued=\"1998\")") (token Open 0 1 ∷ token Word 1 14 ∷ token Equal 15 1 ∷ token Quoted 16 6 ∷ token Close 22 1 ∷ [])
unfolding token_at word_at quoted_at next_start
grouped =
    (23, (next (omega arith) refl, (next (omega arith) refl, (next (omega arith) refl, (next (omega arith) refl, (next (omega arith) refl, refl))))), refl)
