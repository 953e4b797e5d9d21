-- What a session keeps while a request waits
use Rattle.std.proofs.Common.{◌≡◌, ℕ, Bool, true, false, cond, List, [], ◌∷◌, Option, None, Some, subst, arith}
use Rattle.z_types.specs.declared.requests.Init.{Init}
use Rattle.z_types.specs.declared.requests.Request.TheVariants as request
use Rattle.unit_forms.specs.Logins.{AsksWithLogin, IsLoginIf}
use Rattle.route_config.specs.declared.route.Route.{Route}
use Rattle.route_config.specs.declared.route.User.{User}
use Rattle.gateway_rules.specs.Replies.{is_accepted}
use Rattle.gateway_rules.specs.Settling.{agreed_by, login_among, settled_by}
use Rattle.gateway_rules.specs.declared.agreement.Agreement.{Agreement}
use Rattle.z_types.specs.declared.requests.Request.{Request}
use Rattle.gateway_rules.specs.Works.{CanBegin, IsAskable}
use Rattle.front_session.specs.Sessions.{SessionState, Waiting, IsKept, CanWait, HasRoomFor}
use Rattle.front_session.specs.Admitting.{counted}

kept_login : (users : List User) (login : Option (List ℕ)) → IsLoginIf login → IsLoginIf (login_among users login)
kept_login [] login its = its
kept_login (user ∷ users) login its = tt

login_settled : (b : Bool) (route : Route) (init : Init) (agreed : Agreement) → cond b (Some (settled_by route init)) None ≡ Some agreed
    → IsLoginIf init.login → IsLoginIf agreed.login
login_settled true route init agreed e h =
    let same : login_among route.users init.login ≡ agreed.login = cc in subst IsLoginIf same (kept_login route.users init.login h)
login_settled false route init agreed e h = absurd cc

-- what a request settles has a login, if any, that is one
pub agreed_login : (route : Route) (request : Request) (agreed : Agreement) → agreed_by route request ≡ Some agreed → AsksWithLogin request → IsLoginIf agreed.login
agreed_login route (request.Init init) agreed e h = login_settled (is_accepted route init) route init agreed e h
agreed_login route (request.Search search) agreed e h = absurd cc
agreed_login route (request.Present present) agreed e h = absurd cc
agreed_login route (request.Scan scan) agreed e h = absurd cc
agreed_login route (request.Close close) agreed e h = absurd cc

-- a request that waits can be counted
pub wait_kept : (route : Route) (old s : SessionState) (request : Request) (waiting : Waiting) → s ≡ counted route old request → IsKept old → CanBegin waiting.work → IsAskable waiting.work
    → HasRoomFor old.records waiting.work → CanWait s waiting
wait_kept route old s request waiting is kept begins asks records =
    rw is (record { begins = begins; asks = asks; searches = omega (arith, kept.of_units); records = records })
