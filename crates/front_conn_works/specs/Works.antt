-- The works that a client's session asks of the targets (ANSI/NISO Z39.50-2003, 4.2): those of the
-- requests of its course, in their order. What a GET of an HTTP connection asks is no part of this:
-- `sru_rules` has it.
use Rattle.std.specs.Prelude.{List, [], ◌∷◌, ◌++◌}
use Rattle.z_types.specs.declared.requests.Request.{Request}
use Rattle.z_types.specs.declared.work.Work.{Work}
use Rattle.z_types.specs.declared.world.World as world
use Rattle.route_config.specs.declared.route.Route.{Route}
use Rattle.front_conn.specs.gateway_rules.Asking as asking
use Rattle.front_conn.specs.gateway_rules.Asking.{Asking, asked}
use Rattle.front_conn.specs.gateway_rules.Course as course
use Rattle.front_conn.specs.gateway_rules.Course.{Course}
use Rattle.front_conn.specs.gateway_rules.Marks.{Cause}
use Rattle.front_conn.specs.gateway_rules.Session.{answered}
use Rattle.front_conn.specs.gateway_rules.State.{ClientState}

-- the work that is asked, if any: a reply at once has none
abbrev pub work_in : Asking → List Work
work_in (asking.at_once reply) = []
work_in (asking.works work) = work ∷ []

-- the work of a client's request
abbrev pub work_of : {W : Type 0} → world.Ghosts W → Route → ClientState → Request → List Work
work_of w route client request = work_in (asked w route client request)

-- The works of a course under causes: each request asks where the requests before it have left the
-- client. A request whose cause is not there yet is in work, and nothing behind it is asked.
abbrev pub works_of : {W : Type 0} → world.Ghosts W → Route → ClientState → Course
    → List Cause → List Work
works_of w route client (course.stands here) causes = []
works_of w route client (course.ends last end) causes = []
works_of w route client (course.answers request more) [] = work_of w route client request
works_of w route client (course.answers request more) (cause ∷ causes) =
    work_of w route client request
    ++ works_of w route (answered w route client request cause).client more causes
