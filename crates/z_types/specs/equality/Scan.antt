-- For proofs alone: what a scan asks and answers is tested and copied exactly (this project's own)
use Rattle.std.specs.Prelude.{refl}
use Rattle.z_types.specs.equality.Parts.{Exactness, part, ◌⊗◌, made_of, number, text, list, option}
use Rattle.z_types.specs.equality.Query.{attr, term}
use Rattle.z_types.specs.declared.scan.ScanAsk.{ScanAsk}
use Rattle.z_types.specs.declared.scan.ScanEntry.{ScanEntry}
use Rattle.z_types.specs.declared.scan.ScanAnswer.{ScanAnswer}

abbrev pub scan_ask : Exactness ScanAsk
scan_ask = made_of
    (part (λ (a : ScanAsk). a.attr_set) (option text)
    ⊗ part (λ a. a.attrs) (list attr)
    ⊗ part (λ a. a.term) term
    ⊗ part (λ a. a.step) (option number)
    ⊗ part (λ a. a.number) number
    ⊗ part (λ a. a.position) (option number))
    (λ (attr_set, (attrs, (term, (step, (number, position))))). record {
      attr_set = attr_set;
      attrs = attrs;
      term = term;
      step = step;
      number = number;
      position = position;
    })
    (λ _. refl)

abbrev pub scan_entry : Exactness ScanEntry
scan_entry = made_of
    (part (λ (e : ScanEntry). e.term) term
    ⊗ part (λ e. e.occurrences) (option number))
    (λ (term, occurrences). record { term = term; occurrences = occurrences })
    (λ _. refl)

abbrev pub scan_answer : Exactness ScanAnswer
scan_answer = made_of
    (part (λ (a : ScanAnswer). a.position) (option number)
    ⊗ part (λ a. a.entries) (list scan_entry))
    (λ (position, entries). record { position = position; entries = entries })
    (λ _. refl)
