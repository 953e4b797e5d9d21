-- For proofs alone: replies are tested and copied exactly (this project's own)
use Rattle.std.specs.Prelude.{ℕ, Bool, List, Option}
use Rattle.std.proofs.Common.{ap}
use Rattle.z_types.specs.Exact.{EqIsExact, CloneIsExact}
use Rattle.z_types.specs.equality.Parts.{Exactness, ◌⊠◌, number, flag, text, list, option}
use Rattle.z_types.specs.equality.Diagnostic.{diagnostic}
use Rattle.z_types.specs.equality.Records.{body}
use Rattle.z_types.specs.equality.Requests.{init, close}
use Rattle.z_types.specs.equality.Scan.{scan_answer}
use Rattle.z_types.specs.declared.diagnostic.Diag.{Diag}
use Rattle.z_types.specs.declared.records.Body.{Body}
use Rattle.z_types.specs.declared.scan.ScanAnswer.{ScanAnswer}
use Rattle.z_types.specs.declared.replies.Reply.{Reply}
use Rattle.z_types.specs.declared.replies.Reply.TheVariants.{Init, Search, Present, Scan, Close}
use Rattle.z_types.specs.contracts.replies.ReplyPartialEq.TheImpl as reply_test
use Rattle.z_types.specs.contracts.replies.ReplyClone.TheImpl as reply_copy

-- the parts of a SearchResponse
abbrev FoundParts : Type 0
FoundParts = Option (List ℕ) × (ℕ × (ℕ × (ℕ × (Bool × (Option ℕ × Body)))))

abbrev found : Exactness FoundParts
found = option text ⊠ number ⊠ number ⊠ number ⊠ flag ⊠ option number ⊠ body

abbrev search_of : FoundParts → Reply
search_of (ref_id, (count, (returned, (next, (ok, (status, body)))))) =
    Search ref_id count returned next ok status body

-- the parts of a PresentResponse
abbrev PresentedParts : Type 0
PresentedParts = Option (List ℕ) × (ℕ × (ℕ × (ℕ × Body)))

abbrev presented : Exactness PresentedParts
presented = option text ⊠ number ⊠ number ⊠ number ⊠ body

abbrev present_of : PresentedParts → Reply
present_of (ref_id, (returned, (next, (status, body)))) = Present ref_id returned next status body

-- the parts of a ScanResponse
abbrev ScannedParts : Type 0
ScannedParts = Option (List ℕ) × (ℕ × (ScanAnswer × List Diag))

abbrev scanned : Exactness ScannedParts
scanned = option text ⊠ number ⊠ scan_answer ⊠ list diagnostic

abbrev scan_of : ScannedParts → Reply
scan_of (ref_id, (status, (answer, diags))) = Scan ref_id status answer diags

pub reply_exact : EqIsExact (reply_test.ghosts).eq
reply_exact (Init a b) (Init a' b') h =
    ap (λ (init, result). Init init result) ((init ⊠ flag).eq_is_exact (a, b) (a', b') h)
reply_exact (Search a b c d e f g) (Search a' b' c' d' e' f' g') h =
    ap search_of
    (found.eq_is_exact (a, (b, (c, (d, (e, (f, g)))))) (a', (b', (c', (d', (e', (f', g')))))) h)
reply_exact (Present a b c d e) (Present a' b' c' d' e') h =
    ap present_of (presented.eq_is_exact (a, (b, (c, (d, e)))) (a', (b', (c', (d', e')))) h)
reply_exact (Scan a b c d) (Scan a' b' c' d') h =
    ap scan_of (scanned.eq_is_exact (a, (b, (c, d))) (a', (b', (c', d'))) h)
reply_exact (Close a) (Close b) h = ap Close (close.eq_is_exact a b h)
reply_exact a b h = cc

pub reply_cloned : CloneIsExact (reply_copy.ghosts).is_clone
reply_cloned (Init a b) (Init a' b') h =
    ap (λ (init, result). Init init result) ((init ⊠ flag).clone_is_exact (a, b) (a', b') h)
reply_cloned (Search a b c d e f g) (Search a' b' c' d' e' f' g') h =
    ap search_of
    (found.clone_is_exact (a, (b, (c, (d, (e, (f, g)))))) (a', (b', (c', (d', (e', (f', g')))))) h)
reply_cloned (Present a b c d e) (Present a' b' c' d' e') h =
    ap present_of (presented.clone_is_exact (a, (b, (c, (d, e)))) (a', (b', (c', (d', e')))) h)
reply_cloned (Scan a b c d) (Scan a' b' c' d') h =
    ap scan_of (scanned.clone_is_exact (a, (b, (c, d))) (a', (b', (c', d'))) h)
reply_cloned (Close a) (Close b) h = ap Close (close.clone_is_exact a b h)
reply_cloned a b h = absurd h
