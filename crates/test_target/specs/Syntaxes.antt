-- The record syntaxes of the test targets (ANSI/NISO Z39.50-2003, appendix REC; GeneralString of
-- X.690:2021, 8.23)
use Rattle.z_types.specs.Same.{is_same}
use Rattle.std.specs.Prelude.{ℕ, List, [], ◌∷◌, ◌++◌, length, map, Option, Some, None, Result, Ok, Err, codes, if◌then◌else◌}
use Rattle.std.specs.List.{join_with_byte}
use Rattle.std.specs.Fmt.{decimal}
use Rattle.z_types.specs.declared.diagnostic.Diag.{Diag}
use Rattle.z_types.specs.declared.records.Item.{Item}
use Rattle.z_types.specs.declared.records.Item.TheVariants.{Record}
use Rattle.z_types.specs.declared.records.Form.TheVariants.{Single, Octets}
use Rattle.z_types.specs.Bib1.{bib1}
use Rattle.z_types.specs.declared.conditions.Condition.TheVariants.{RecordSyntaxNotSupported}
use Rattle.test_target.specs.declared.syntaxes.Syntax.{Syntax}
use Rattle.test_target.specs.declared.syntaxes.Syntax.TheVariants.{Xml, Sutrs}

-- XML
abbrev pub xml : List ℕ
xml = 1 ∷ 2 ∷ 840 ∷ 10003 ∷ 5 ∷ 109 ∷ 10 ∷ []

-- SUTRS
abbrev pub sutrs : List ℕ
sutrs = 1 ∷ 2 ∷ 840 ∷ 10003 ∷ 5 ∷ 101 ∷ []

-- the numbers of an object identifier with full stops between
abbrev pub dotted : List ℕ → List ℕ
dotted arcs = join_with_byte 46 (map decimal arcs)

-- the syntax asked for, XML where there is none, or the diagnostic of another
abbrev pub syntax_in : Option (List ℕ) → Result Syntax Diag
syntax_in None = Ok Xml
syntax_in (Some syntax) =
    if is_same syntax xml then Ok Xml
    else (if is_same syntax sutrs then Ok Sutrs
    else Err (bib1 RecordSyntaxNotSupported (dotted syntax)))

-- a text of fewer than 128 octets in a syntax: as an XML element, or as a GeneralString, whose tag
-- is universal 27
abbrev pub in_syntax : Syntax → List ℕ → Item
in_syntax Xml text = Record xml Octets (codes "<r>" ++ text ++ codes "</r>")
in_syntax Sutrs text = Record sutrs Single (27 ∷ length text ∷ text)
