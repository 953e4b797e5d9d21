-- Elements with their tags (XML 1.0, fifth edition, 3 and 3.1)
use Rattle.std.specs.Prelude.{ℕ, List, [], ◌++◌, codes}

-- ` name="value"`
abbrev pub attribute : List ℕ → List ℕ → List ℕ
attribute name value = codes " " ++ name ++ codes "=\"" ++ value ++ codes "\""

-- `<name attributes>` and `</name>`
unfoldable pub start_tag : List ℕ → List ℕ → List ℕ
start_tag name attributes = codes "<" ++ name ++ attributes ++ codes ">"

unfoldable pub end_tag : List ℕ → List ℕ
end_tag name = codes "</" ++ name ++ codes ">"

-- an element without attributes
unfoldable pub element : List ℕ → List ℕ → List ℕ
element name content = start_tag name [] ++ content ++ end_tag name

-- an element with attributes
abbrev pub element_with : List ℕ → List ℕ → List ℕ → List ℕ
element_with name attributes content = start_tag name attributes ++ content ++ end_tag name
