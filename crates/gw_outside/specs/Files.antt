-- What a file gives (this project's own)
use Rattle.std.specs.Prelude.{◌≡◌, ℕ, ◌≤◌, ◌<◌, List, Option, IfSome, length}
use Rattle.gw_outside.specs.declared.files.FileGot.{FileGot}
use Rattle.gw_outside.specs.declared.files.FileGot.TheVariants.{Whole, Longer, Failed, Memory}

-- the answer to the read of a file: all its octets, or it is longer than the limit
abbrev pub FileFits : Option (List ℕ) → ℕ → FileGot → Type 0
FileFits contents limit (Whole text) =
    (length text ≤ limit) × IfSome contents (λ bytes. text ≡ bytes)
FileFits contents limit Longer = IfSome contents (λ bytes. limit < length bytes)
FileFits contents limit Failed = Unit {0}
FileFits contents limit Memory = Unit {0}
