-- The parameters of a query (URL Standard, 5.1, application/x-www-form-urlencoded, by the grammar
-- of the crate `form_urlencoded`; SRU 1.2, Request Parameters)
use Rattle.z_types.specs.Same.{is_same}
use Rattle.std.specs.Prelude.{ℕ, List, [], ◌∷◌, map, if◌then◌else◌}
use Rattle.std.specs.Str.Lossy.{utf8_lossy}
use Rattle.form_urlencoded.specs.Form.{raw_pairs, decode}
use Rattle.sru_request.specs.declared.parameter.Parameter.{Parameter}

-- an encoded name or value as text
abbrev pub text_of : List ℕ → List ℕ
text_of octets = utf8_lossy (decode octets)

-- a pair as text
abbrev pub parameter_of : List ℕ × List ℕ → Parameter
parameter_of pair = record { name = text_of pair.0; value = text_of pair.1 }

-- the pairs of a query in order
abbrev pub parameters_of : List ℕ → List Parameter
parameters_of query = map parameter_of (raw_pairs query)

-- the value of a name: that of its first pair, and empty where there is none. An empty value counts
-- as absent.
abbrev pub value_of : List ℕ → List Parameter → List ℕ
value_of name [] = []
value_of name (first ∷ rest) = if is_same first.name name then first.value else value_of name rest
