-- For proofs alone: answers to SRU clients are tested and copied exactly (this project's own)
use Rattle.std.specs.Prelude.{refl}
use Rattle.std.proofs.Common.{ap}
use Rattle.z_types.specs.Exact.{EqIsExact, CloneIsExact}
use Rattle.z_types.specs.equality.Parts.{Exactness, part, ◌⊗◌, made_of, shown, number, flag, text, list, option}
use Rattle.z_types.specs.declared.sru.SruDiag.{SruDiag}
use Rattle.z_types.specs.declared.sru.SruItem.{SruItem}
use Rattle.z_types.specs.declared.sru.SruItem.TheVariants.{Data, Fault}
use Rattle.z_types.specs.declared.sru.SruAnswer.{SruAnswer}
use Rattle.z_types.specs.contracts.sru.SruItemPartialEq.TheImpl as item_test
use Rattle.z_types.specs.contracts.sru.SruItemClone.TheImpl as item_copy

abbrev pub sru_diag : Exactness SruDiag
sru_diag = made_of
    (part (λ (d : SruDiag). d.version) text
    ⊗ part (λ d. d.number) number
    ⊗ part (λ d. d.details) text)
    (λ (version, (number, details)).
    record { version = version; number = number; details = details })
    (λ _. refl)

pub sru_item_exact : EqIsExact (item_test.ghosts).eq
sru_item_exact (Data a) (Data b) h = ap Data (text.eq_is_exact a b h)
sru_item_exact (Fault a) (Fault b) h = ap Fault (sru_diag.eq_is_exact a b h)
sru_item_exact a b h = cc

pub sru_item_cloned : CloneIsExact (item_copy.ghosts).is_clone
sru_item_cloned (Data a) (Data b) h = ap Data h
sru_item_cloned (Fault a) (Fault b) h = ap Fault (sru_diag.clone_is_exact a b h)
sru_item_cloned a b h = absurd h

abbrev pub sru_item : Exactness SruItem
sru_item = shown sru_item_exact sru_item_cloned

abbrev pub sru_answer : Exactness SruAnswer
sru_answer = made_of
    (part (λ (a : SruAnswer). a.version) text
    ⊗ part (λ a. a.escaped) flag
    ⊗ part (λ a. a.count) number
    ⊗ part (λ a. a.start) number
    ⊗ part (λ a. a.uri) text
    ⊗ part (λ a. a.items) (list sru_item)
    ⊗ part (λ a. a.refused) (option sru_diag))
    (λ (version, (escaped, (count, (start, (uri, (items, refused)))))). record {
      version = version;
      escaped = escaped;
      count = count;
      start = start;
      uri = uri;
      items = items;
      refused = refused;
    })
    (λ _. refl)
