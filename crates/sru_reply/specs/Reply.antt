-- A searchRetrieveResponse and its message (SRU 1.2, Response Parameters, Records, Diagnostics)
use Rattle.std.specs.Prelude.{ℕ, ◌+◌, Bool, true, false, ◌||◌, ◌==◌, nat_lt, List, [], ◌∷◌, ◌++◌, length, Option, None, Some, codes, if◌then◌else◌}
use Rattle.std.specs.Fmt.{decimal}
use Rattle.z_types.specs.declared.sru.SruDiag.{SruDiag}
use Rattle.z_types.specs.declared.sru.SruItem.{SruItem}
use Rattle.z_types.specs.declared.sru.SruItem.TheVariants.{Data, Fault}
use Rattle.z_types.specs.declared.sru.SruAnswer.{SruAnswer}
use Rattle.z_bib1.specs.SruDiagnostics.{sru_text}
use Rattle.sru_reply.specs.Escape.{escaped}
use Rattle.sru_reply.specs.Message.{message}
use Rattle.sru_reply.specs.Xml.{attribute, element, element_with}

-- what a diagnostic is about, where there is something
unfoldable pub details : List ℕ → List ℕ
details octets = if length octets == 0 then [] else element (codes "diag:details") (escaped octets)

-- what a diagnostic says
unfoldable pub diagnostic_fields : SruDiag → List ℕ
diagnostic_fields diag =
    element (codes "diag:uri") (codes "info:srw/diagnostic/1/" ++ decimal diag.number)
    ++ details diag.details
    ++ element (codes "diag:message") (sru_text diag.number)

-- a diagnostic
unfoldable pub diagnostic : SruDiag → List ℕ
diagnostic diag =
    element_with (codes "diag:diagnostic")
    (attribute (codes "xmlns:diag") (codes "http://www.loc.gov/zing/srw/diagnostic/"))
    (diagnostic_fields diag)

-- the name of a packing, which is string where records are escaped
abbrev pub packing : Bool → List ℕ
packing true = codes "string"
packing false = codes "xml"

-- a record's octets, packed
abbrev pub packed : Bool → List ℕ → List ℕ
packed true octets = escaped octets
packed false octets = octets

-- the schema and the octets of a record; what stands for it may be a diagnostic (surrogate)
abbrev pub schema_of : List ℕ → SruItem → List ℕ
schema_of uri (Data octets) = uri
schema_of uri (Fault diag) = codes "info:srw/schema/1/diagnostics-v1.1"

abbrev pub data_of : SruItem → List ℕ
data_of (Data octets) = octets
data_of (Fault diag) = diagnostic diag

-- what is said of a record at a position
unfoldable pub record_fields : SruAnswer → ℕ → SruItem → List ℕ
record_fields answer position item =
    element (codes "zs:recordSchema") (schema_of answer.uri item)
    ++ element (codes "zs:recordPacking") (packing answer.escaped)
    ++ element (codes "zs:recordData") (packed answer.escaped (data_of item))
    ++ element (codes "zs:recordPosition") (decimal position)

-- a record at a position
unfoldable pub record_at : SruAnswer → ℕ → SruItem → List ℕ
record_at answer position item = element (codes "zs:record") (record_fields answer position item)

-- records from a position on
abbrev pub records_from : SruAnswer → ℕ → List SruItem → List ℕ
records_from answer position [] = []
records_from answer position (item ∷ items) =
    record_at answer position item ++ records_from answer (position + 1) items

-- the records, where one is given
unfoldable pub records : SruAnswer → List ℕ
records answer =
    if length answer.items == 0 then []
    else element (codes "zs:records") (records_from answer answer.start answer.items)

-- no record is given, or the last one is
abbrev pub is_last : SruAnswer → Bool
is_last answer =
    length answer.items == 0 || nat_lt answer.count (answer.start + length answer.items)

-- the position of the record behind those that are given
unfoldable pub next_position : SruAnswer → List ℕ
next_position answer =
    if is_last answer then []
    else element (codes "zs:nextRecordPosition") (decimal (answer.start + length answer.items))

-- how many records there are
abbrev pub count_of : ℕ → List ℕ
count_of count = element (codes "zs:numberOfRecords") (decimal count)

-- the records of a search
unfoldable pub found : SruAnswer → List ℕ
found answer = count_of answer.count ++ records answer ++ next_position answer

-- no records, and the diagnostic in their place
unfoldable pub refused : SruDiag → List ℕ
refused diag = count_of 0 ++ element (codes "zs:diagnostics") (diagnostic diag)

-- what is answered
abbrev pub answered : SruAnswer → Option SruDiag → List ℕ
answered answer None = found answer
answered answer (Some diag) = refused diag

-- the version, and what is answered
unfoldable pub response_fields : SruAnswer → List ℕ
response_fields answer =
    element (codes "zs:version") answer.version ++ answered answer answer.refused

-- the element of a response
unfoldable pub root : SruAnswer → List ℕ
root answer =
    element_with (codes "zs:searchRetrieveResponse")
    (attribute (codes "xmlns:zs") (codes "http://www.loc.gov/zing/srw/"))
    (response_fields answer)

-- the response
unfoldable pub response : SruAnswer → List ℕ
response answer = codes "<?xml version=\"1.0\" encoding=\"UTF-8\"?>" ++ root answer

-- its message
abbrev pub reply : SruAnswer → List ℕ
reply answer = message (codes "200 OK") (response answer)
