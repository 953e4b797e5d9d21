-- The answer to a head that has come is the answer to its connection, whatever comes behind it.
use Rattle.std.proofs.Common.{◌≡◌, ◌≢◌, ◌++◌, ℕ, List, [], ◌∷◌, length, Option, None, Result, Ok, Err, refl, sym, subst}
use Rattle.z_types.specs.declared.marks.End.{End}
use Rattle.z_types.specs.declared.marks.End.TheVariants.{Closed, Cut}
use Rattle.z_types.specs.declared.marks.Mark.{Mark}
use Rattle.z_types.specs.declared.world.World as world
use Rattle.route_config.specs.declared.route.Database.{Database}
use Rattle.route_config.specs.declared.route.Route.{Route}
use Rattle.gateway_rules.specs.Answers.{Kind, letter, kind_of}
use Rattle.sru_reply.specs.declared.bare.Refusal.{Refusal}
use Rattle.sru_request.specs.Laws.{HeadStays}
use Rattle.sru_request.specs.declared.faults.HeadFault.{HeadFault}
use Rattle.sru_request.specs.declared.faults.HeadFault.TheVariants.{BadHttp, NotGet, HeadTooLarge, Memory}
use Rattle.sru_request.specs.declared.head.Get.{Get}
use Rattle.sru_request.specs.declared.head.HeadGot.{HeadGot}
use Rattle.sru_request.specs.declared.head.HeadGot.TheVariants.{Got, NeedMore}
use Rattle.sru_rules.specs.Answers.{AnswersAs, Answers, Ended}
use Rattle.sru_rules.specs.Course.{Course, ends, answers, IsCourse, HasGet, GetLeadsTo, HeadLeadsTo}
use Rattle.sru_rules.specs.Laws.{GetIsAnswered, HeadIsRefused, HeadIsCut, GetStays}
use Rattle.sru_rules.specs.Reading.{Reading}
use Rattle.sru_rules.specs.Run.{last_written}

-- octets that begin with a letter do so whatever follows them
kind_front : (bytes more : List ℕ) → kind_of bytes ≡ letter → kind_of (bytes ++ more) ≡ letter
kind_front [] more h = absurd cc
kind_front (octet ∷ bytes) more h = h

-- an answer of an HTTP connection
of_letter : {W : Type 0} (w : world.Ghosts W) (route : Route) (bytes : List ℕ) (marks : List Mark) (out : List ℕ)
    (end : End) → kind_of bytes ≡ letter → Ended w route bytes marks out end → Answers w route bytes marks out end
of_letter w route bytes marks out end is answer =
    subst (λ (kind : Kind). AnswersAs kind w route bytes marks out end) (sym is) answer

-- ---- a GET

-- a head that is a GET
abbrev got : Get → ℕ → Result HeadGot HeadFault
got get used = Ok (Got get used)

got_is : (get : Get) (used : ℕ) → got get used ≢ Ok NeedMore
got_is get used h = cc

pub get_stays : ((octets : List ℕ) → HeadStays octets) → GetStays
get_stays stays route bytes more database reading has = record {
  get = has.get;
  used = has.used;
  is_head = stays bytes more (Ok (Got has.get has.used)) (got_is has.get has.used) has.is_head;
  is = has.is;
}

get_course : (route : Route) (bytes : List ℕ) (database : Database) (reading : Reading)
    → HasGet route bytes database reading → IsCourse route bytes (answers database reading)
get_course route bytes database reading has = record {
  head = Ok (Got has.get has.used);
  is_head = has.is_head;
  leads = subst (λ (named : Option Database). GetLeadsTo route has.get named (answers database reading)) (sym has.is.found)
      (reading, has.is.is_reading, refl);
}

pub get_is_answered : {W : Type 0} (w : world.Ghosts W) → ((octets : List ℕ) → HeadStays octets) → GetIsAnswered w
get_is_answered w stays route bytes more database reading cause is has allowed =
    of_letter w route (bytes ++ more) _ _ Closed (kind_front bytes more is) (record {
      answered = record {
        whole = answers database reading;
        is_whole = get_course route (bytes ++ more) database reading
            (get_stays stays route bytes more database reading has);
        causes = cause ∷ [];
        of_marks = refl;
        allowed = (allowed, tt);
        written = refl;
      };
      served = tt;
      none_left = refl;
      ended = refl;
    })

-- ---- a head that is refused

leads_stay : (route : Route) (m n : ℕ) (head : Result HeadGot HeadFault) (whole : Course) → head ≢ Ok NeedMore
    → HeadLeadsTo route m head whole → HeadLeadsTo route n head whole
leads_stay route m n (Ok NeedMore) whole known h = absurd (known refl)
leads_stay route m n (Ok (Got get used)) whole known h = h
leads_stay route m n (Err BadHttp) whole known h = h
leads_stay route m n (Err NotGet) whole known h = h
leads_stay route m n (Err HeadTooLarge) whole known h = h
leads_stay route m n (Err Memory) whole known h = h

ends_so : {W : Type 0} (w : world.Ghosts W) (route : Route) (bytes : List ℕ) (last : Option Refusal) (end : End) → IsCourse route bytes (ends last end) → Ended w route bytes [] (last_written last) end
ends_so w route bytes last end course = record {
  answered = record {
    whole = ends last end;
    is_whole = course;
    causes = [];
    of_marks = refl;
    allowed = tt;
    written = refl;
  };
  served = tt;
  none_left = refl;
  ended = refl;
}

pub head_is_refused : {W : Type 0} (w : world.Ghosts W) → ((octets : List ℕ) → HeadStays octets) → HeadIsRefused w
head_is_refused w stays route bytes more head last end is found known leads =
    of_letter w route (bytes ++ more) [] _ end (kind_front bytes more is)
    (ends_so w route (bytes ++ more) last end (record {
      head = head;
      is_head = stays bytes more head known found;
      leads = leads_stay route (length bytes) (length (bytes ++ more)) head (ends last end) known leads;
    }))

pub head_is_cut : {W : Type 0} (w : world.Ghosts W) → HeadIsCut w
head_is_cut w route bytes is found =
    of_letter w route bytes [] [] (Cut (length bytes)) is
    (ends_so w route bytes None (Cut (length bytes))
    (record { head = Ok NeedMore; is_head = found; leads = refl }))
