-- What is printed of a report (this project's own)
use Rattle.std.specs.Prelude.{ℕ, List, [], ◌∷◌, ◌++◌, Option, None, Some, length, codes, sum_by}
use Rattle.std.specs.List.{flat_map}
use Rattle.std.specs.Fmt.{decimal}
use Rattle.hex.specs.Hex.{encode_lower}
use Rattle.z_types.specs.declared.marks.Mark.{Mark}
use Rattle.z_types.specs.declared.marks.Mark.TheVariants.{Plain, Link, Silent, Gone, Full}
use Rattle.z_types.specs.declared.marks.End.{End}
use Rattle.z_types.specs.declared.marks.End.TheVariants as end
use Rattle.replay.specs.declared.reports.ClassReport.{ClassReport}
use Rattle.replay.specs.declared.reports.ClientReport.{ClientReport}
use Rattle.replay.specs.declared.reports.Report.{Report}

-- a mark, with its number where it has one
abbrev pub mark_text : Mark → List ℕ
mark_text Plain = codes "Plain"
mark_text Link = codes "Link"
mark_text (Silent looks) = codes "Silent:" ++ decimal looks
mark_text Gone = codes "Gone"
mark_text (Full open_sessions) = codes "Full:" ++ decimal open_sessions

-- the marks with a space between them, or a dash
abbrev pub marks_text : List Mark → List ℕ
marks_text [] = codes "-"
marks_text (mark ∷ marks) = mark_text mark ++ flat_map (λ other. 32 ∷ mark_text other) marks

-- octets in hexadecimal, or a dash
abbrev pub octets_text : List ℕ → List ℕ
octets_text [] = codes "-"
octets_text (octet ∷ octets) = encode_lower (octet ∷ octets)

-- how a connection ended, with its number where it has one
abbrev pub end_text : End → List ℕ
end_text end.Closed = codes "Closed"
end_text end.Finished = codes "Finished"
end_text (end.Malformed at) = codes "Malformed " ++ decimal at
end_text (end.Cut left) = codes "Cut " ++ decimal left
end_text end.Limited = codes "Limited"
end_text end.ReadFault = codes "ReadFault"
end_text end.WriteFault = codes "WriteFault"
end_text end.Memory = codes "Memory"

-- a line of a word and a value
abbrev pub line : List ℕ → List ℕ → List ℕ
line word value = word ++ value ++ 10 ∷ []

-- the four lines of a client
unfoldable pub client_lines : ClientReport → List ℕ
client_lines client =
    line (codes "client ") (decimal client.number)
    ++ line (codes "bytes ") (octets_text client.bytes)
    ++ line (codes "marks ") (marks_text client.marks)
    ++ line (codes "end ") (end_text client.end)

-- what was counted of a class, and the end of its line
unfoldable pub counts_text : ClassReport → List ℕ
counts_text class =
    codes " dials " ++ decimal class.dials
    ++ codes " searches " ++ decimal class.searches
    ++ codes " gones " ++ decimal class.gones
    ++ line (codes " faults ") (decimal class.faults)

-- the line of a class
unfoldable pub class_line : ClassReport → List ℕ
class_line class = codes "class " ++ class.name ++ counts_text class

-- how many marks there are
abbrev pub requests : List ClientReport → ℕ
requests clients = sum_by (λ client. length client.marks) clients

-- the line of sums
unfoldable pub sums_line : List ClientReport → List ℕ
sums_line clients =
    codes "clients " ++ decimal (length clients)
    ++ line (codes " requests ") (decimal (requests clients))

-- the line of the Presents that kept records answered, where these are told
abbrev pub hits_line : Option ℕ → List ℕ
hits_line None = []
hits_line (Some hits) = line (codes "cache hits ") (decimal hits)

-- the clients in order, the classes in order, the hits, and the sums
abbrev pub page : Report → List ℕ
page report =
    flat_map client_lines report.clients ++ flat_map class_line report.classes
    ++ hits_line report.cache_hits ++ sums_line report.clients
