-- What a head was answered at once is the answer to its connection, and a work that is begun for one is the search of its GET.
use Rattle.std.proofs.Common.{◌≡◌, ◌≢◌, ◌++◌, ℕ, List, [], ◌∷◌, length, Option, Some, None, Result, Ok, Err, refl, sym, ap, subst}
use Rattle.std.specs.Prelude.{option_to_list}
use Rattle.z_types.specs.declared.marks.End.{End}
use Rattle.z_types.specs.declared.marks.End.TheVariants.{Closed, Malformed}
use Rattle.z_types.specs.declared.marks.Mark.{Mark}
use Rattle.z_types.specs.declared.marks.Mark.TheVariants.{Plain}
use Rattle.z_types.specs.declared.work.Work.{Work}
use Rattle.z_types.specs.declared.world.World as world
use Rattle.route_config.specs.declared.route.Database.{Database}
use Rattle.route_config.specs.declared.route.Route.{Route}
use Rattle.front_sru.specs.gateway_rules.Answers.{kind_of, letter}
use Rattle.front_sru.specs.gateway_rules.Marks.{plain}
use Rattle.sru_reply.specs.Bare.{bare}
use Rattle.sru_reply.specs.Reply.{reply}
use Rattle.sru_reply.specs.declared.bare.Refusal.{Refusal}
use Rattle.sru_reply.specs.declared.bare.Refusal.TheVariants.{BadRequest, MethodNotAllowed, NotFound}
use Rattle.sru_request.specs.declared.faults.HeadFault.{HeadFault}
use Rattle.sru_request.specs.declared.faults.HeadFault.TheVariants.{BadHttp, NotGet, HeadTooLarge, Memory}
use Rattle.sru_request.specs.declared.head.Get.{Get}
use Rattle.sru_request.specs.declared.head.HeadGot.{HeadGot}
use Rattle.sru_request.specs.declared.head.HeadGot.TheVariants.{Got, NeedMore}
use Rattle.sru_request.specs.Request.{IsHeadAnswer}
use Rattle.front_sru.specs.sru_rules.Answers.{Answers}
use Rattle.front_sru.specs.sru_rules.Course.{GetLeadsTo, HasGet, HeadLeadsTo, database_of, ends}
use Rattle.front_sru.specs.sru_rules.Laws.{GetIsAnswered, HeadIsRefused}
use Rattle.front_sru.specs.sru_rules.Asking.{rpn_of, open_query, search_work}
use Rattle.front_sru.specs.sru_rules.Reading.{Reading, refused, taken}
use Rattle.front_sru.specs.sru_rules.Run.{Due, answer_to, at_once, due, due_by, searches}
use Rattle.sru_request.specs.declared.query.SruQuery.{SruQuery}
use Rattle.z_types.specs.declared.query.RpnQuery.{RpnQuery}
use Rattle.z_types.specs.declared.sru.SruDiag.{SruDiag}
use Rattle.front_sru.specs.Gets.{IsDueDone, IsFoundBegun, IsPut, Served}
use Rattle.front_sru.specs.declared.begun.Begun.{Begun}
use Rattle.front_sru.specs.declared.begun.Begun.TheVariants as begun
use Rattle.front_sru.specs.declared.state.SruStage.{SruStage}
use Rattle.front_http.specs.Gets.{IsAnswered, StandsInGet, WaitsFor}
use Rattle.front_sru.specs.sru_rules.declared.retrieval.Retrieval.{Retrieval}
use Rattle.front_http.specs.Heads.{IsHeadBegun, IsFaultBegun, IsRefusedBy}
use Rattle.front_http.specs.Laws.{HeadsAnswer, HeadsStand}

-- what is told of a head
abbrev told : Result HeadGot HeadFault → Result HeadGot HeadFault
told head = head

-- a fault or a GET is more than nothing
fault-known : (fault : HeadFault) → told (Err fault) ≢ Ok NeedMore
fault-known fault h = cc

got-known : (get : Get) (used : ℕ) → told (Ok (Got get used)) ≢ Ok NeedMore
got-known get used h = absurd cc

module _ {W : Type 0} (w : world.Ghosts W) (route : Route) (octets : List ℕ) where
  -- a bare reply, and the connection has ended so
  bare-answered : (refusal : Refusal) (how : End) (old new : List ℕ) (mark : Option Mark) (end : Option End)
      → ((more : List ℕ) → Answers w route (octets ++ more) [] (bare refusal) how)
      → begun.Write mark end ≡ begun.Write None (Some how) → new ≡ old ++ bare refusal
      → IsAnswered w route octets (option_to_list mark) old new end
  bare-answered refusal how old new mark end whole is written =
      let of_mark : mark ≡ None = cc in
      record {
        message = bare refusal;
        written = written;
        how = how;
        ended = cc;
        whole = λ more. subst (λ (m : Option Mark). Answers w route (octets ++ more) (option_to_list m) (bare refusal) how) (sym of_mark)
            (whole more);
      }

  module _ (is_letter : kind_of octets ≡ letter) (by_refused : HeadIsRefused w) where
    fault-answered : (fault : HeadFault) (refusal : Refusal) (how : End) (old new : List ℕ) (mark : Option Mark) (end : Option End)
        → IsHeadAnswer octets (Err fault) → ((count : ℕ) → HeadLeadsTo route count (Err fault) (ends (Some refusal) how))
        → IsRefusedBy refusal how old new (begun.Write mark end)
        → IsAnswered w route octets (option_to_list mark) old new end
    fault-answered fault refusal how old new mark end is leads done =
        bare-answered refusal how old new mark end
        (λ more. by_refused route octets more (Err fault) (Some refusal) how is_letter is (fault-known fault) (leads (length octets))) done.0 done.1

    by-fault : (fault : HeadFault) (old new : List ℕ) (mark : Option Mark) (end : Option End) → IsHeadAnswer octets (Err fault)
        → IsFaultBegun fault old new (begun.Write mark end) → IsAnswered w route octets (option_to_list mark) old new end
    by-fault BadHttp old new mark end is done = fault-answered BadHttp BadRequest (Malformed 0) old new mark end is (λ count. refl) done
    by-fault HeadTooLarge old new mark end is done = fault-answered HeadTooLarge BadRequest (Malformed 0) old new mark end is (λ count. refl) done
    by-fault NotGet old new mark end is done = fault-answered NotGet MethodNotAllowed Closed old new mark end is (λ count. refl) done
    by-fault Memory old new mark end is done = let wrong = done.0 in absurd cc

    -- no database has the name
    nowhere-answered : (get : Get) (used : ℕ) (old new : List ℕ) (mark : Option Mark) (end : Option End)
        → IsHeadAnswer octets (Ok (Got get used)) → database_of route get ≡ None
        → begun.Write mark end ≡ begun.Write None (Some Closed) → new ≡ old ++ bare NotFound
        → IsAnswered w route octets (option_to_list mark) old new end
    nowhere-answered get used old new mark end is none says written =
        let leads : GetLeadsTo route get (database_of route get) (ends (Some NotFound) Closed) =
        subst (λ (named : Option Database). GetLeadsTo route get named (ends (Some NotFound) Closed)) (sym none) refl in
        bare-answered NotFound Closed old new mark end
        (λ more. by_refused route octets more (Ok (Got get used)) (Some NotFound) Closed is_letter is (got-known get used) leads) says written

  -- a GET that is answered at once
  once-answered : kind_of octets ≡ letter → GetIsAnswered w → (database : Database) (reading : _) (asks : Due) (old new : Served)
      (mark : Option Mark) (end : Option End) → HasGet route octets database reading → due route database reading ≡ asks
      → IsDueDone asks old new (begun.Write mark end) → IsAnswered w route octets (option_to_list mark) old.out new.out end
  once-answered is_letter answered database reading (searches retrieval) old new mark end has is done =
      let wrong = done.handed in absurd cc
  once-answered is_letter answered database reading (at_once given) old new mark end has is done =
      let says = done.0.closed in
      let of_mark : mark ≡ Some Plain = cc in
      record {
        message = reply given;
        written = done.0.written;
        how = Closed;
        ended = cc;
        whole = λ more.
            subst (λ (m : Option Mark). Answers w route (octets ++ more) (option_to_list m) (reply given) Closed) (sym of_mark)
            (subst (λ (a : Due). Answers w route (octets ++ more) (Plain ∷ []) (reply (answer_to w route plain a)) Closed) is
            (answered route octets more database reading plain is_letter has tt));
      }

  by-database : kind_of octets ≡ letter → HeadIsRefused w → GetIsAnswered w → (get : Get) (used : ℕ) (named : Option Database)
      (old new : Served) (mark : Option Mark) (end : Option End) → IsHeadAnswer octets (Ok (Got get used))
      → database_of route get ≡ named → IsFoundBegun route get named old new (begun.Write mark end)
      → IsAnswered w route octets (option_to_list mark) old.out new.out end
  by-database is_letter by_refused answered get used None old new mark end is found done =
      nowhere-answered is_letter by_refused get used old.out new.out mark end is found done.0.0 done.0.1
  by-database is_letter by_refused answered get used (Some database) old new mark end is found done =
      once-answered is_letter answered database done.reading (due route database done.reading) old new mark end
      (record { get = get; used = used; is_head = is; is = record { found = found; is_reading = done.is_reading } }) refl done.is_done

  -- ---- a search that is begun

  search-stands : (database : Database) (reading : _) (asks : Due) (old new : Served) (job : Work) → HasGet route octets database reading
      → due route database reading ≡ asks → IsDueDone asks old new (begun.Work job)
      → StandsInGet w route octets new.stage × (new.out ≡ old.out)
  search-stands database reading (at_once given) old new job has is done = let wrong = done.0.closed in absurd cc
  search-stands database reading (searches retrieval) old new job has is done = (
    record {
      database = database;
      reading = reading;
      has_get = has;
      retrieval = retrieval;
      is_due = is;
      waits = subst (λ (s : SruStage). WaitsFor w route retrieval s) (sym done.waits) refl;
    },
    done.written,
  )

  stands-by : (get : Get) (used : ℕ) (named : Option Database) (old new : Served) (job : Work) → IsHeadAnswer octets (Ok (Got get used))
      → database_of route get ≡ named → IsFoundBegun route get named old new (begun.Work job)
      → StandsInGet w route octets new.stage × (new.out ≡ old.out)
  stands-by get used None old new job is found done = let wrong = done.0.0 in absurd cc
  stands-by get used (Some database) old new job is found done =
      search-stands database done.reading (due route database done.reading) old new job
      (record { get = get; used = used; is_head = is; is = record { found = found; is_reading = done.is_reading } }) refl done.is_done

no-fault-work : (fault : HeadFault) (old new : List ℕ) (job : Work) → IsFaultBegun fault old new (begun.Work job) → ⊥
no-fault-work BadHttp old new job done = let wrong = done.0 in absurd cc
no-fault-work HeadTooLarge old new job done = let wrong = done.0 in absurd cc
no-fault-work NotGet old new job done = let wrong = done.0 in absurd cc
no-fault-work Memory old new job done = let wrong = done.0 in absurd cc

pub heads-answer : {W : Type 0} (w : world.Ghosts W) → HeadIsRefused w → GetIsAnswered w → HeadsAnswer w
heads-answer w by_refused answered route octets (Err fault) old new mark end is_letter is done =
    by-fault w route octets is_letter by_refused fault old.out new.out mark end is done.0
heads-answer w by_refused answered route octets (Ok get) old new mark end is_letter is done =
    by-database w route octets is_letter by_refused answered get is.0 (database_of route get) old new mark end is.1 refl done

pub heads-stand : {W : Type 0} (w : world.Ghosts W) → HeadsStand w
heads-stand w route octets (Err fault) old new job is done = absurd (no-fault-work fault old.out new.out job done.0)
heads-stand w route octets (Ok get) old new job is done =
    stands-by w route octets get is.0 (database_of route get) old new job is.1 refl done

-- ---- what is written of a head, and which search is begun for it

-- the output goes on so
abbrev pub IsOutOf : Begun → (old new : List ℕ) → Type 0
IsOutOf (begun.Write mark end) old new = (message : List ℕ) × (new ≡ old ++ message)
IsOutOf other old new = new ≡ old

put-out : (message : List ℕ) (mark : Option Mark) (old new : List ℕ) (answer : Begun) → IsPut message mark old new answer
    → IsOutOf answer old new
put-out message mark old new begun.Memory h = h
put-out message mark old new (begun.Write own end) h = (message, h.1)
put-out message mark old new (begun.Work job) h = let wrong = h.0 in absurd cc

refused-out : (refusal : Refusal) (how : End) (old new : List ℕ) (answer : Begun) → IsRefusedBy refusal how old new answer
    → IsOutOf answer old new
refused-out refusal how old new begun.Memory h = h
refused-out refusal how old new (begun.Write own end) h = (bare refusal, h.1)
refused-out refusal how old new (begun.Work job) h = let wrong = h.0 in absurd cc

none-out : (old new : List ℕ) (answer : Begun) → answer ≡ begun.Memory → new ≡ old → IsOutOf answer old new
none-out old new begun.Memory says h = h
none-out old new (begun.Write mark end) says h = absurd cc
none-out old new (begun.Work job) says h = h

fault-out : (fault : HeadFault) (old new : List ℕ) (answer : Begun) → IsFaultBegun fault old new answer → IsOutOf answer old new
fault-out BadHttp old new answer h = refused-out BadRequest (Malformed 0) old new answer h
fault-out HeadTooLarge old new answer h = refused-out BadRequest (Malformed 0) old new answer h
fault-out NotGet old new answer h = refused-out MethodNotAllowed Closed old new answer h
fault-out Memory old new answer h = none-out old new answer h.0 h.1

due-out : (asks : Due) (old new : Served) (answer : Begun) → IsDueDone asks old new answer → IsOutOf answer old.out new.out
due-out (at_once given) old new begun.Memory h = let wrong = h.0.closed in absurd cc
due-out (at_once given) old new (begun.Write mark end) h = (reply given, h.0.written)
due-out (at_once given) old new (begun.Work job) h = let wrong = h.0.closed in absurd cc
due-out (searches retrieval) old new begun.Memory h = h.written
due-out (searches retrieval) old new (begun.Write mark end) h = let wrong = h.handed in absurd cc
due-out (searches retrieval) old new (begun.Work job) h = h.written

found-out : (route : Route) (get : Get) (named : Option Database) (old new : Served) (answer : Begun)
    → IsFoundBegun route get named old new answer → IsOutOf answer old.out new.out
found-out route get None old new answer h = put-out (bare NotFound) None old.out new.out answer h.0
found-out route get (Some database) old new begun.Memory h = ap (λ (s : Served). s.out) h
found-out route get (Some database) old new (begun.Write mark end) h =
    due-out (due route database h.reading) old new (begun.Write mark end) h.is_done
found-out route get (Some database) old new (begun.Work job) h =
    due-out (due route database h.reading) old new (begun.Work job) h.is_done

pub head-out : (route : Route) (head : Result Get HeadFault) (old new : Served) (answer : Begun) → IsHeadBegun route head old new answer
    → IsOutOf answer old.out new.out
head-out route (Err fault) old new answer h = fault-out fault old.out new.out answer h.0
head-out route (Ok get) old new answer h = found-out route get (database_of route get) old new answer h

-- a search at the legs of a database that is named
pub record IsSearchOf (route : Route) (job : Work) : Type 0 where
  pub get : Get
  pub database : Database
  pub found : database_of route get ≡ Some database
  pub retrieval : Retrieval
  pub legs : retrieval.legs ≡ database.legs
  pub is : job ≡ search_work retrieval

by-legs : (database : Database) (asked : SruQuery) (query : Result RpnQuery SruDiag) (retrieval : Retrieval)
    → due_by database asked query ≡ searches retrieval → retrieval.legs ≡ database.legs
by-legs database asked (Err diag) retrieval is = absurd cc
by-legs database asked (Ok query) retrieval is =
    let own : Retrieval = record { legs = database.legs; asked = asked; query = query } in
    let same : retrieval ≡ own = cc in ap (λ (r : Retrieval). r.legs) same

due-legs : (route : Route) (database : Database) (reading : Reading) (retrieval : Retrieval) → due route database reading ≡ searches retrieval
    → retrieval.legs ≡ database.legs
due-legs route database (refused diag) retrieval is = absurd cc
due-legs route database (taken asked text) retrieval is = by-legs database asked (open_query route database asked.version (rpn_of asked.version route.indexes text)) retrieval is

due-search : (route : Route) (get : Get) (database : Database) (reading : Reading) (asks : Due) (old new : Served) (job : Work)
    → database_of route get ≡ Some database → due route database reading ≡ asks → IsDueDone asks old new (begun.Work job)
    → IsSearchOf route job
due-search route get database reading (at_once given) old new job found is done = let wrong = done.0.closed in absurd cc
due-search route get database reading (searches retrieval) old new job found is done =
    let says = done.handed in record {
      get = get;
      database = database;
      found = found;
      retrieval = retrieval;
      legs = due-legs route database reading retrieval is;
      is = cc;
    }

search-by : (route : Route) (get : Get) (named : Option Database) (old new : Served) (job : Work) → database_of route get ≡ named
    → IsFoundBegun route get named old new (begun.Work job) → IsSearchOf route job
search-by route get None old new job found done = let wrong = done.0.0 in absurd cc
search-by route get (Some database) old new job found done =
    due-search route get database done.reading (due route database done.reading) old new job found refl done.is_done

pub head-search : (route : Route) (head : Result Get HeadFault) (old new : Served) (job : Work)
    → IsHeadBegun route head old new (begun.Work job) → IsSearchOf route job
head-search route (Err fault) old new job done = absurd (no-fault-work fault old.out new.out job done.0)
head-search route (Ok get) old new job done = search-by route get (database_of route get) old new job refl done
