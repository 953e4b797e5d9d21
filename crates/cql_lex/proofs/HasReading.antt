-- A text has tokens, or a place where it is unclosed.
use Rattle.std.proofs.Common.{◌≡◌, ℕ, zero, suc, ◌+◌, ◌<◌, ◌≤◌, List, [], ◌∷◌, length, Option, Some, None, ◌⊎◌, inl, inr, ⊎_elim, refl, arith}
use Rattle.std.proofs.lemmas.Bool.{cases_lt}
use Rattle.cql_lex.specs.Tokens.{LeadsTo, next_start, token_at, unclosed_place}
use Rattle.cql_lex.specs.OneReading.{HasReading}
use Rattle.cql_lex.specs.declared.token.Token.{Token}
use Rattle.cql_lex.proofs.SpanLemmas.{next_within, token_span, next_full}

-- where tokens stop: the text ends, or no token starts
abbrev Stops : List ℕ → ℕ → Type 0
Stops text at = (next_start text at ≡ length text) ⊎ ((next_start text at < length text) × (token_at text (next_start text at) ≡ None))

record Leads (text : List ℕ) (at : ℕ) : Type 0 where
  tokens : List Token
  end : ℕ
  leads : LeadsTo text at tokens end
  stops : Stops text end

-- tokens lead on from an offset until they stop
leads_on : (text : List ℕ) (steps at : ℕ) → at ≤ length text → length text < at + steps → Leads text at
leads_on text zero at le room = absurd (omega (arith, le, room))
leads_on text (suc n) at le room =
    let after = next_within text at le in
    ⊎_elim
    (λ (below : next_start text at < length text). go (token_at text (next_start text at)) refl below after.0 (λ (next : ℕ) (le' : next ≤ length text) (room' : length text < next + n). leads_on text n next le' room'))
    (λ (past : length text ≤ next_start text at). record { tokens = []; end = at; leads = refl; stops = inl (omega (arith, past, after.1)) })
    (cases_lt (next_start text at) (length text))
  where
    go : (o : Option Token) → token_at text (next_start text at) ≡ o → next_start text at < length text → at ≤ next_start text at → ((next : ℕ) → next ≤ length text → length text < next + n → Leads text next) → Leads text at
    go None e below after on = record { tokens = []; end = at; leads = refl; stops = inr (below, e) }
    go (Some t) e below after on =
        let one = token_span text (next_start text at) t below (next_full text at below) e in
        let more = on t.end one.within (omega (arith, room, after, one.some)) in
        record { tokens = t ∷ more.tokens; end = more.end; leads = (record { within = below; token = e }, more.leads); stops = more.stops }

pub has_reading : (text : List ℕ) → HasReading text
has_reading text =
    let l = leads_on text (suc (length text)) 0 (omega arith) (omega arith) in
    ⊎_elim
    (λ (e : next_start text l.end ≡ length text). inl (l.tokens, (l.end, l.leads, e)))
    (λ (o : (next_start text l.end < length text) × (token_at text (next_start text l.end) ≡ None)). inr (unclosed_place text (next_start text l.end), (l.tokens, l.end, l.leads, o.0, o.1, refl)))
    l.stops
