-- What an orderly script asks of the keys and the logins that it uses (this project's own): the
-- sets of a class and a login find room in one session, and each login of a class has a session of
-- its own
use Rattle.std.specs.Prelude.{ℕ, List, map, filter, filter_map, None, if◌then◌else◌}
use Rattle.std.specs.Set.{distinct_count}
use Rattle.z_types.specs.Logins.{same_login}
use Rattle.pool_sets.specs.Table.{same_key}
use Rattle.sharing_rules.specs.Needed.{is_by, is_in}
use Rattle.sharing_rules.specs.Sharers.{Sharers}
use Rattle.sharing_rules.specs.Uses.{Use}

-- how many keys of a class are used under a login
abbrev pub keys_used : Sharers → List Use → ℕ
keys_used who uses =
    distinct_count same_key (filter_map (λ this. if is_by who this then this.key else None) uses)

-- how many logins use a class, none being one of its own
abbrev pub logins_used : ℕ → List Use → ℕ
logins_used class uses =
    distinct_count same_login (map (λ this. this.by.login) (filter (is_in class) uses))
