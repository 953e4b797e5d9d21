-- A GET is read in one way, and an HTTP connection has one course.
use Rattle.std.proofs.Common.{◌≡◌, ℕ, Bool, List, [], ◌∷◌, Option, Some, None, Result, Ok, Err, sym, ap, subst, ◌∙◌, take}
use Rattle.httparse.proofs.GrammarLemmas.{request_unique}
use Rattle.z_types.specs.declared.sru.SruDiag.{SruDiag}
use Rattle.route_config.specs.declared.route.Database.{Database}
use Rattle.route_config.specs.declared.route.Route.{Route}
use Rattle.sru_request.specs.Checks.{faults, IsFirst}
use Rattle.sru_request.specs.Parameters.{parameters_of}
use Rattle.sru_request.specs.Head.{head_length}
use Rattle.sru_request.specs.Request.{get_of, IsAnswerTo, IsAnswerIn, most_head_octets}
use Rattle.sru_request.specs.declared.faults.QueryFault.{QueryFault}
use Rattle.sru_request.specs.declared.faults.QueryFault.TheVariants.{Diag, Memory as no_memory}
use Rattle.sru_request.specs.declared.faults.HeadFault.{HeadFault}
use Rattle.sru_request.specs.declared.faults.HeadFault.TheVariants.{BadHttp, NotGet, HeadTooLarge, Memory}
use Rattle.sru_request.specs.declared.head.Get.{Get}
use Rattle.sru_request.specs.declared.head.HeadGot.{HeadGot}
use Rattle.sru_request.specs.declared.head.HeadGot.TheVariants.{Got, NeedMore}
use Rattle.sru_request.specs.declared.query.SruQuery.{SruQuery}
use Rattle.sru_rules.specs.Course.{Course, answers, GetLeadsTo, HeadLeadsTo, database_of}
use Rattle.sru_rules.specs.Laws.{HasOneReading, HasOneCourse}
use Rattle.sru_rules.specs.Reading.{IsCqlText, refused, taken}
use Rattle.sru_rules.proofs.OneReading.{one_text}

-- ---- a GET

-- the diagnostic of a fault
abbrev diag_in : SruDiag → QueryFault → SruDiag
diag_in other (Diag diag) = diag
diag_in other no_memory = other

first_one : (all : List SruDiag) (d e : SruDiag) → IsFirst all (Diag d) → IsFirst all (Diag e) → d ≡ e
first_one [] d e x y = absurd x
first_one (first ∷ rest) d e x y = ap (diag_in first) (x ∙ sym y)

-- what stands in an option
abbrev within : {A : Type 0} → A → Option A → A
within other None = other
within other (Some x) = x

-- a request of its parts
asked_of : (version query : List ℕ) (start maximum : ℕ) (escaped : Bool) (schema : ℕ) → SruQuery
asked_of version query start maximum escaped schema = record {
  version = version;
  query = query;
  start = start;
  maximum = maximum;
  escaped = escaped;
  schema = schema;
}

parts_one : (v w t u : List ℕ) (a b m n : ℕ) (e f : Bool) (c d : ℕ) → v ≡ w → t ≡ u → a ≡ b → m ≡ n → e ≡ f → c ≡ d
    → asked_of v t a m e c ≡ asked_of w u b n f d
parts_one v w t u a b m n e f c d version query start maximum escaped schema = cc

same_asked : (q r : SruQuery) → q.version ≡ r.version → q.query ≡ r.query → q.start ≡ r.start → q.maximum ≡ r.maximum
    → q.escaped ≡ r.escaped → q.schema ≡ r.schema → q ≡ r
unfolding asked_of
same_asked q r version query start maximum escaped schema =
    parts_one q.version r.version q.query r.query q.start r.start q.maximum r.maximum q.escaped r.escaped q.schema r.schema
    version query start maximum escaped schema

pub one_reading : HasOneReading
one_reading schemas get (refused d) (refused e) x y =
    ap refused (first_one (faults schemas (parameters_of get.query)) d e x y)
one_reading schemas get (refused d) (taken r u) x y =
    absurd (subst (λ (all : List SruDiag). IsFirst all (Diag d)) y.0.no_fault x)
one_reading schemas get (taken q t) (refused e) x y =
    absurd (subst (λ (all : List SruDiag). IsFirst all (Diag e)) x.0.no_fault y)
one_reading schemas get (taken q t) (taken r u) x y =
    let a = x.0.is in
    let b = y.0.is in
    let asked = same_asked q r (a.version ∙ sym b.version) (a.query ∙ sym b.query)
    (ap (within q.start) (sym a.start ∙ b.start)) (ap (within q.maximum) (sym a.maximum ∙ b.maximum))
    (ap (within q.escaped) (sym a.escaped ∙ b.escaped)) (ap (within q.schema) (sym a.schema ∙ b.schema)) in
    let text = one_text r.query t u (subst (λ (o : SruQuery). IsCqlText o.query t) asked x.1) y.1 in
    ap (λ o. taken o t) asked ∙ ap (taken r) text

-- ---- a head

get_one : (route : Route) (get : Get) (found : Option Database) (a b : Course)
    → GetLeadsTo route get found a → GetLeadsTo route get found b → a ≡ b
get_one route get None a b x y = x ∙ sym y
get_one route get (Some database) a b x y =
    x.2 ∙ ap (answers database) (one_reading route.schemas get x.0 y.0 x.1 y.1) ∙ sym y.2

-- one head leads to one course
leads_one : (route : Route) (n : ℕ) (head : Result HeadGot HeadFault) (a b : Course)
    → HeadLeadsTo route n head a → HeadLeadsTo route n head b → a ≡ b
leads_one route n (Ok NeedMore) a b x y = x ∙ sym y
leads_one route n (Ok (Got get used)) a b x y = get_one route get (database_of route get) a b x y
leads_one route n (Err BadHttp) a b x y = x ∙ sym y
leads_one route n (Err NotGet) a b x y = x ∙ sym y
leads_one route n (Err HeadTooLarge) a b x y = x ∙ sym y
leads_one route n (Err Memory) a b x y = absurd x

-- two answers to whole heads, neither of them want of memory
whole_one : (route : Route) (n : ℕ) (octets : List ℕ) (r s : Result HeadGot HeadFault) (a b : Course)
    → IsAnswerTo octets r → HeadLeadsTo route n r a → IsAnswerTo octets s → HeadLeadsTo route n s b → a ≡ b
whole_one route n octets (Ok NeedMore) s a b x l y m = absurd x
whole_one route n octets (Err HeadTooLarge) s a b x l y m = absurd x
whole_one route n octets (Err Memory) s a b x l y m = absurd l
whole_one route n octets (Err BadHttp) (Err BadHttp) a b x l y m = l ∙ sym m
whole_one route n octets (Err BadHttp) (Err NotGet) a b x l y m = absurd (x y.0 y.1)
whole_one route n octets (Err BadHttp) (Ok (Got get used)) a b x l y m = absurd (x y.1.0 y.1.1)
whole_one route n octets (Err BadHttp) (Ok NeedMore) a b x l y m = absurd y
whole_one route n octets (Err BadHttp) (Err HeadTooLarge) a b x l y m = absurd y
whole_one route n octets (Err BadHttp) (Err Memory) a b x l y m = absurd m
whole_one route n octets (Err NotGet) (Err BadHttp) a b x l y m = absurd (y x.0 x.1)
whole_one route n octets (Err NotGet) (Err NotGet) a b x l y m = l ∙ sym m
whole_one route n octets (Err NotGet) (Ok (Got get used)) a b x l y m =
    absurd (x.2 (ap (λ h. h.method) (request_unique octets x.0 y.1.0 [] [] x.1.reads y.1.1.reads).0 ∙ y.1.2))
whole_one route n octets (Err NotGet) (Ok NeedMore) a b x l y m = absurd y
whole_one route n octets (Err NotGet) (Err HeadTooLarge) a b x l y m = absurd y
whole_one route n octets (Err NotGet) (Err Memory) a b x l y m = absurd m
whole_one route n octets (Ok (Got get used)) (Err BadHttp) a b x l y m = absurd (y x.1.0 x.1.1)
whole_one route n octets (Ok (Got get used)) (Err NotGet) a b x l y m =
    absurd (y.2 (ap (λ h. h.method) (request_unique octets y.0 x.1.0 [] [] y.1.reads x.1.1.reads).0 ∙ x.1.2))
whole_one route n octets (Ok (Got get used)) (Ok (Got other count)) a b x l y m =
    let same = (request_unique octets x.1.0 y.1.0 [] [] x.1.1.reads y.1.1.reads).0 in
    let gets = x.1.3 ∙ ap (λ h. get_of h.target) same ∙ sym y.1.3 in
    get_one route other (database_of route other) a b
    (subst (λ (g : Get). GetLeadsTo route g (database_of route g) a) gets l) m
whole_one route n octets (Ok (Got get used)) (Ok NeedMore) a b x l y m = absurd y
whole_one route n octets (Ok (Got get used)) (Err HeadTooLarge) a b x l y m = absurd y
whole_one route n octets (Ok (Got get used)) (Err Memory) a b x l y m = absurd m

-- the same where it is not known whether the head has come
in_one : (route : Route) (n : ℕ) (octets : List ℕ) (len : Option ℕ) (r s : Result HeadGot HeadFault) (a b : Course)
    → IsAnswerIn octets len r → HeadLeadsTo route n r a → IsAnswerIn octets len s → HeadLeadsTo route n s b → a ≡ b
in_one route n octets None r s a b x l y m =
    leads_one route n s a b (subst (λ (h : Result HeadGot HeadFault). HeadLeadsTo route n h a) (x ∙ sym y) l) m
in_one route n octets (Some count) r s a b x l y m = whole_one route n (take count octets) r s a b x l y m

pub one_course : HasOneCourse
one_course route bytes a b x y =
    in_one route _ (take most_head_octets bytes) (head_length (take most_head_octets bytes)) x.head y.head a b
    x.is_head x.leads y.is_head y.leads
