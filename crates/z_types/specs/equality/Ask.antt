-- For proofs alone: what a session is asked for is tested and copied exactly (this project's own)
use Rattle.std.specs.Prelude.{ℕ, List, Option}
use Rattle.std.proofs.Common.{ap}
use Rattle.z_types.specs.Exact.{EqIsExact, CloneIsExact}
use Rattle.z_types.specs.equality.Parts.{Exactness, ◌⊠◌, shown, number, text, list, option}
use Rattle.z_types.specs.equality.Key as keys
use Rattle.z_types.specs.equality.Scan.{scan_ask}
use Rattle.z_types.specs.declared.ask.Ask.{Ask}
use Rattle.z_types.specs.declared.ask.Ask.TheVariants.{Search, Present, Scan}
use Rattle.z_types.specs.contracts.ask.AskPartialEq.TheImpl as ask_test
use Rattle.z_types.specs.contracts.ask.AskClone.TheImpl as ask_copy

-- the parts of a present
abbrev PresentParts : Type 0
PresentParts = List ℕ × (ℕ × (ℕ × (Option (List ℕ) × Option (List ℕ))))

abbrev presented : Exactness PresentParts
presented = text ⊠ number ⊠ number ⊠ option text ⊠ option text

abbrev present_of : PresentParts → Ask
present_of (name, (first, (count, (syntax, element)))) = Present name first count syntax element

pub ask_exact : EqIsExact (ask_test.ghosts).eq
ask_exact (Search a b) (Search a' b') h =
    ap (λ (name, key). Search name key) ((text ⊠ keys.key).eq_is_exact (a, b) (a', b') h)
ask_exact (Present a b c d e) (Present a' b' c' d' e') h =
    ap present_of (presented.eq_is_exact (a, (b, (c, (d, e)))) (a', (b', (c', (d', e')))) h)
ask_exact (Scan a b) (Scan a' b') h =
    ap (λ (dbs, ask). Scan dbs ask) ((list text ⊠ scan_ask).eq_is_exact (a, b) (a', b') h)
ask_exact a b h = cc

pub ask_cloned : CloneIsExact (ask_copy.ghosts).is_clone
ask_cloned (Search a b) (Search a' b') h =
    ap (λ (name, key). Search name key) ((text ⊠ keys.key).clone_is_exact (a, b) (a', b') h)
ask_cloned (Present a b c d e) (Present a' b' c' d' e') h =
    ap present_of (presented.clone_is_exact (a, (b, (c, (d, e)))) (a', (b', (c', (d', e')))) h)
ask_cloned (Scan a b) (Scan a' b') h =
    ap (λ (dbs, ask). Scan dbs ask) ((list text ⊠ scan_ask).clone_is_exact (a, b) (a', b') h)
ask_cloned a b h = absurd h

abbrev pub ask : Exactness Ask
ask = shown ask_exact ask_cloned
