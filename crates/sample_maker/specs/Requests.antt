-- The requests that each client of a load sends (ANSI/NISO Z39.50-2003, InitializeRequest,
-- SearchRequest, PresentRequest and Close); their values are this project's own
use Rattle.std.specs.Prelude.{ℕ, pos, true, List, [], ◌∷◌, None, Some, codes}
use Rattle.z_types.specs.Bounds.{most_unit_octets}
use Rattle.z_types.specs.Tree.{Tree, leaf}
use Rattle.z_types.specs.declared.query.Attr.{Attr}
use Rattle.z_types.specs.declared.query.Term.TheVariants.{General}
use Rattle.z_types.specs.declared.requests.Asked.TheVariants.{Good}
use Rattle.z_types.specs.declared.requests.Request.{Request}
use Rattle.z_types.specs.declared.requests.Request.TheVariants.{Init, Search, Present, Close}

-- the attribute set bib-1 (ANSI/NISO Z39.50-2003, Appendix OID)
abbrev pub bib1_attributes : List ℕ
bib1_attributes = 1 ∷ 2 ∷ 840 ∷ 10003 ∷ 3 ∷ 1 ∷ []

-- the record syntax XML (ANSI/NISO Z39.50-2003, Appendix OID)
abbrev pub xml : List ℕ
xml = 1 ∷ 2 ∷ 840 ∷ 10003 ∷ 5 ∷ 109 ∷ 10 ∷ []

-- versions 1 to 3, the options 0 to 14, the largest units, and no login
abbrev pub init_request : Request
init_request = Init (record {
  ref_id = None;
  versions = 7;
  options = 32767;
  preferred = most_unit_octets;
  exceptional = most_unit_octets;
  login = None;
})

-- Use of bib-1 with the value 4, title (ANSI/NISO Z39.50-2003, Appendix ATR)
abbrev pub title : Attr
title = record { set = None; kind = 1; value = 4 }

-- the term of one letter, as title
abbrev pub titles_with : (letter : ℕ) → Tree
titles_with letter = leaf (title ∷ []) (General (letter ∷ []))

-- the titles with a letter in the database `Default`, as the result set `1`, and none of its
-- records
abbrev pub search_request : (letter : ℕ) → Request
search_request letter = Search (record {
  ref_id = None;
  small = 0;
  large = 1;
  medium = 0;
  replace = true;
  set_name = codes "1";
  dbs = codes "Default" ∷ [];
  small_element = None;
  medium_element = None;
  syntax = None;
  query = Good (record { attr_set = bib1_attributes; root = titles_with letter });
})

-- the first record of the result set `1`, as XML
abbrev pub present_request : Request
present_request = Present (record {
  ref_id = None;
  set_name = codes "1";
  start = pos 1;
  number = 1;
  element = Good None;
  syntax = Some xml;
})

-- the end of the connection, as all is done
abbrev pub close_request : Request
close_request = Close (record { ref_id = None; reason = 0; info = None })

-- the requests of a client that searches for a letter, in their order
abbrev pub requests_for : (letter : ℕ) → List Request
requests_for letter =
    init_request ∷ search_request letter ∷ present_request ∷ close_request ∷ []
