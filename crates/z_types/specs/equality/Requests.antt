-- For proofs alone: requests are tested and copied exactly (this project's own)
use Rattle.std.specs.Prelude.{refl}
use Rattle.std.proofs.Common.{ap}
use Rattle.z_types.specs.Exact.{EqIsExact, CloneIsExact}
use Rattle.z_types.specs.equality.Parts.{Exactness, part, ◌⊗◌, made_of, number, integer, flag, text, list, option}
use Rattle.z_types.specs.equality.Asked.{asked}
use Rattle.z_types.specs.equality.RpnQuery.{rpn_query}
use Rattle.z_types.specs.equality.Scan.{scan_ask}
use Rattle.z_types.specs.declared.requests.Init.{Init}
use Rattle.z_types.specs.declared.requests.Search.{Search}
use Rattle.z_types.specs.declared.requests.Present.{Present}
use Rattle.z_types.specs.declared.requests.Scan.{Scan}
use Rattle.z_types.specs.declared.requests.Close.{Close}
use Rattle.z_types.specs.declared.requests.Request.TheVariants as request
use Rattle.z_types.specs.contracts.requests.RequestPartialEq.TheImpl as request_test
use Rattle.z_types.specs.contracts.requests.RequestClone.TheImpl as request_copy

abbrev pub init : Exactness Init
init = made_of
    (part (λ (i : Init). i.ref_id) (option text)
    ⊗ part (λ i. i.versions) number
    ⊗ part (λ i. i.options) number
    ⊗ part (λ i. i.preferred) number
    ⊗ part (λ i. i.exceptional) number
    ⊗ part (λ i. i.login) (option text))
    (λ (ref_id, (versions, (options, (preferred, (exceptional, login))))). record {
      ref_id = ref_id;
      versions = versions;
      options = options;
      preferred = preferred;
      exceptional = exceptional;
      login = login;
    })
    (λ _. refl)

abbrev pub search : Exactness Search
search = made_of
    (part (λ (s : Search). s.ref_id) (option text)
    ⊗ part (λ s. s.small) number
    ⊗ part (λ s. s.large) number
    ⊗ part (λ s. s.medium) number
    ⊗ part (λ s. s.replace) flag
    ⊗ part (λ s. s.set_name) text
    ⊗ part (λ s. s.dbs) (list text)
    ⊗ part (λ s. s.small_element) (option text)
    ⊗ part (λ s. s.medium_element) (option text)
    ⊗ part (λ s. s.syntax) (option text)
    ⊗ part (λ s. s.query) (asked rpn_query))
    (λ (
      ref_id,
      (
        small,
        (
          large,
          (
            medium,
            (
              replace,
              (
                set_name,
                (
                  dbs,
                  (small_element, (medium_element, (syntax, query))),
                ),
              ),
            ),
          ),
        ),
      ),
    ). record {
      ref_id = ref_id;
      small = small;
      large = large;
      medium = medium;
      replace = replace;
      set_name = set_name;
      dbs = dbs;
      small_element = small_element;
      medium_element = medium_element;
      syntax = syntax;
      query = query;
    })
    (λ _. refl)

abbrev pub present : Exactness Present
present = made_of
    (part (λ (p : Present). p.ref_id) (option text)
    ⊗ part (λ p. p.set_name) text
    ⊗ part (λ p. p.start) integer
    ⊗ part (λ p. p.number) number
    ⊗ part (λ p. p.element) (asked (option text))
    ⊗ part (λ p. p.syntax) (option text))
    (λ (ref_id, (set_name, (start, (number, (element, syntax))))). record {
      ref_id = ref_id;
      set_name = set_name;
      start = start;
      number = number;
      element = element;
      syntax = syntax;
    })
    (λ _. refl)

abbrev pub scan : Exactness Scan
scan = made_of
    (part (λ (s : Scan). s.ref_id) (option text)
    ⊗ part (λ s. s.dbs) (list text)
    ⊗ part (λ s. s.ask) (asked scan_ask))
    (λ (ref_id, (dbs, ask)). record { ref_id = ref_id; dbs = dbs; ask = ask })
    (λ _. refl)

abbrev pub close : Exactness Close
close = made_of
    (part (λ (c : Close). c.ref_id) (option text)
    ⊗ part (λ c. c.reason) number
    ⊗ part (λ c. c.info) (option text))
    (λ (ref_id, (reason, info)). record { ref_id = ref_id; reason = reason; info = info })
    (λ _. refl)

pub request_exact : EqIsExact (request_test.ghosts).eq
request_exact (request.Init a) (request.Init b) h = ap request.Init (init.eq_is_exact a b h)
request_exact (request.Search a) (request.Search b) h = ap request.Search (search.eq_is_exact a b h)
request_exact (request.Present a) (request.Present b) h =
    ap request.Present (present.eq_is_exact a b h)
request_exact (request.Scan a) (request.Scan b) h = ap request.Scan (scan.eq_is_exact a b h)
request_exact (request.Close a) (request.Close b) h = ap request.Close (close.eq_is_exact a b h)
request_exact a b h = cc

pub request_cloned : CloneIsExact (request_copy.ghosts).is_clone
request_cloned (request.Init a) (request.Init b) h = ap request.Init (init.clone_is_exact a b h)
request_cloned (request.Search a) (request.Search b) h =
    ap request.Search (search.clone_is_exact a b h)
request_cloned (request.Present a) (request.Present b) h =
    ap request.Present (present.clone_is_exact a b h)
request_cloned (request.Scan a) (request.Scan b) h = ap request.Scan (scan.clone_is_exact a b h)
request_cloned (request.Close a) (request.Close b) h = ap request.Close (close.clone_is_exact a b h)
request_cloned a b h = absurd h
