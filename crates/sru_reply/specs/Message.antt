-- Messages of HTTP/1.1 (RFC 9112, 2.1) that end their connection
use Rattle.std.specs.Prelude.{ℕ, List, [], ◌∷◌, ◌++◌, length, codes}
use Rattle.std.specs.Fmt.{decimal}

-- a line with CR LF behind it
unfoldable pub line : List ℕ → List ℕ
line text = text ++ 13 ∷ 10 ∷ []

-- the fields, for a body of that many octets, and the empty line that ends the head
unfoldable pub fields : ℕ → List ℕ
fields count =
    line (codes "Content-Type: text/xml; charset=utf-8")
    ++ line (codes "Content-Length: " ++ decimal count)
    ++ line (codes "Connection: close")
    ++ line []

-- a head, for a body of that many octets
unfoldable pub head : List ℕ → ℕ → List ℕ
head status count = line (codes "HTTP/1.1 " ++ status) ++ fields count

-- a message
abbrev pub message : List ℕ → List ℕ → List ℕ
message status body = head status (length body) ++ body
