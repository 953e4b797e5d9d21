-- The definitions at small pools and tables: each line is an equation by computation (this project's own)
use Rattle.std.specs.Prelude.{◌≡◌, ℕ, true, false, List, [], ◌∷◌, Option, None, Some, refl}
use Rattle.z_types.specs.declared.key.SetKey.{SetKey}
use Rattle.z_types.specs.declared.query.Term.TheVariants.{General}
use Rattle.z_types.specs.Tree.{leaf}
use Rattle.z_types.specs.declared.address.Address.{Address}
use Rattle.z_types.specs.declared.address.Address.TheVariants.{Test, Login}
use Rattle.z_types.specs.declared.address.Site.TheVariants as site
use Rattle.pool_sets.specs.declared.pooled.Parts.{Parts}
use Rattle.pool_sets.specs.declared.sessions.Stand.TheVariants.{Idle, Out}
use Rattle.pool_sets.specs.declared.doors.Seat.{Seat}
use Rattle.pool_sets.specs.declared.doors.Taken.{Taken}
use Rattle.pool_sets.specs.declared.doors.Taken.TheVariants.{Reuse, Fresh, Dial, Full, Memory}
use Rattle.pool_sets.specs.Table.{Table, empty_table, set_of, after_find, room, after_room, after_record, after_forget, after_expire}
use Rattle.pool_sets.specs.Entries.{slot_and_hits}
use Rattle.pool_sets.specs.Plain.{Pool, take_of, put, lost, redial_member, redial}
use Rattle.pool_sets.specs.Counts.{is_booked}

-- ---- the sets of a session

-- the key of a search for a term in one database
abbrev key_of : ℕ → SetKey
key_of term = record { dbs = (68 ∷ []) ∷ []; query = record { attr_set = 1 ∷ 2 ∷ []; root = leaf [] (General (term ∷ [])) } }

abbrev a : SetKey
a = key_of 97

abbrev b : SetKey
b = key_of 98

-- one set may be held: the second takes the slot of the first, which is found no more
abbrev one_set : Table
one_set = after_record 0 a 3 5 (empty_table 1)

room_of_one : room one_set ≡ 0
room_of_one = refl

first_is_forgotten : set_of a (after_room one_set) ≡ None
first_is_forgotten = refl

second_is_held : slot_and_hits (set_of b (after_record 0 b 4 6 (after_room one_set))) ≡ Some (0, 4)
second_is_held = refl

-- the least free slot is taken first; a set that was forgotten leaves its slot
abbrev two_sets : Table
two_sets = after_record 1 b 4 6 (after_record 0 a 3 5 (empty_table 3))

room_of_three : room two_sets ≡ 2
room_of_three = refl

room_after_forgetting : room (after_forget 0 two_sets) ≡ 0
room_after_forgetting = refl

-- a search that finds a set brings it to the front, so that the other one is the least recently used
room_after_use : room (after_find a 7 (after_record 1 b 4 6 (after_record 0 a 3 5 (empty_table 2)))) ≡ 1
room_after_use = refl

-- a moment below the greatest that was given counts as that greatest: both sets were used at 6
used_at_the_greatest : (after_expire 65 60 (after_find a 2 two_sets)).entries ≡ (after_find a 2 two_sets).entries
used_at_the_greatest = refl

-- a set goes that was unused for ttl seconds, and not before
goes_at_ttl : (after_expire 66 60 two_sets).entries ≡ []
goes_at_ttl = refl

stays_below_ttl : (after_expire 65 60 two_sets).entries ≡ record { slot = 1; key = b; hits = 4; used = 6 } ∷ []
stays_below_ttl = refl

-- ---- the pool. A session is a number here

abbrev two_members : List Address
two_members = Test 0 ∷ Test 1 ∷ []

-- at most two sessions of a class; a session rests 300 seconds, a set 60
abbrev two : Pool ℕ
two = record { sessions = []; given = 0; max_sessions = 2; sets_max = 10; session_ttl = 300; set_ttl = 60 }

abbrev parts : ℕ → Table → ℕ → Parts ℕ
parts session table target = record { session = session; table = table; address = Test target }

abbrev seat : ℕ → Seat
seat number = record { class = 0; number = number }

-- the answer of a take for class 0 of two members, and the pool after it
abbrev answer : Option SetKey → ℕ → Pool ℕ → Taken ℕ
answer want now p = (take_of 0 two_members None want now p).0

abbrev after : Option SetKey → ℕ → Pool ℕ → Pool ℕ
after want now p = (take_of 0 two_members None want now p).1

abbrev one_out : Pool ℕ
one_out = after None 0 two

abbrev two_out : Pool ℕ
two_out = after None 0 one_out

-- the members are dialled in turn, and then the class is full
first_member : answer None 0 two ≡ Dial (seat 1) 0
first_member = refl

second_member : answer None 0 one_out ≡ Dial (seat 2) 1
second_member = refl

then_full : answer None 0 two_out ≡ Full 2
then_full = refl

-- another class is not full, and its session has the next number
other_class : (take_of 1 two_members None None 0 two_out).0 ≡ Dial (record { class = 1; number = 3 }) 0
other_class = refl

-- what was put back is given again
abbrev second_back : Pool ℕ
second_back = put (seat 2) (parts 22 (empty_table 10) 1) 0 two_out

given_again : answer None 0 second_back ≡ Fresh (seat 2) (parts 22 (empty_table 10) 1)
given_again = refl

-- a lent session is idle no longer
lent_is_out : answer None 0 (after None 0 second_back) ≡ Full 2
lent_is_out = refl

-- a set is held for set_ttl seconds after its last use: used at 0, at 59 and not at 119
abbrev with_a : Pool ℕ
with_a = put (seat 1) (parts 11 (after_record 0 a 3 0 (empty_table 10)) 0) 0 one_out

abbrev a_at : ℕ → Parts ℕ
a_at now = parts 11 (after_record 0 a 3 now (empty_table 10)) 0

held_at_59 : answer (Some a) 59 with_a ≡ Reuse (seat 1) (a_at 59) 0 3
held_at_59 = refl

abbrev with_a_again : Pool ℕ
with_a_again = put (seat 1) (a_at 59) 59 (after (Some a) 59 with_a)

gone_at_119 : answer (Some a) 119 with_a_again ≡ Fresh (seat 1) (parts 11 (record { entries = []; most = 10; latest = 119 }) 0)
gone_at_119 = refl

-- the first of these answers is not booked, the second is
not_booked : is_booked (Some a) (answer (Some a) 59 with_a) ≡ false
not_booked = refl

is_now_booked : is_booked (Some a) (answer (Some a) 119 with_a_again) ≡ true
is_now_booked = refl

-- a session that rested for session_ttl seconds is dropped, and another is dialled
dropped_at_300 : answer None 300 with_a ≡ Dial (seat 2) 0
dropped_at_300 = refl

stays_at_299 : answer None 299 with_a ≡ Fresh (seat 1) (parts 11 (record { entries = []; most = 10; latest = 299 }) 0)
stays_at_299 = refl

-- where now is before the put, no time has passed
before_the_put : answer None 0 (put (seat 1) (parts 11 (empty_table 10) 0) 1000 one_out) ≡ Fresh (seat 1) (parts 11 (empty_table 10) 0)
before_the_put = refl

-- a set in a session that is out does not expire until it is put back: then it goes at the next take
out_keeps_its_sets : (put (seat 1) (a_at 59) 500 (after (Some a) 59 with_a)).sessions ≡ record { number = 1; class = 0; login = None; member = 0; stand = Idle (a_at 59) 500 } ∷ []
out_keeps_its_sets = refl

goes_at_next_take : answer (Some a) 500 (put (seat 1) (a_at 59) 500 (after (Some a) 59 with_a)) ≡ Fresh (seat 1) (parts 11 (record { entries = []; most = 10; latest = 500 }) 0)
goes_at_next_take = refl

-- of two that hold the set, or of two that are idle, the least number is given
abbrev both_back : Pool ℕ
both_back = put (seat 1) (a_at 0) 9 (put (seat 2) (parts 22 (after_record 0 a 3 0 (empty_table 10)) 1) 0 two_out)

least_holder : answer (Some a) 9 both_back ≡ Reuse (seat 1) (a_at 9) 0 3
least_holder = refl

-- one that holds the set goes before one of a lesser number
abbrev second_holds : Pool ℕ
second_holds = put (seat 1) (parts 11 (empty_table 10) 0) 9 (put (seat 2) (parts 22 (after_record 0 b 4 0 (empty_table 10)) 1) 0 two_out)

holder_first : answer (Some b) 9 second_holds ≡ Reuse (seat 2) (parts 22 (after_record 0 b 4 9 (empty_table 10)) 1) 0 4
holder_first = refl

else_least : answer (Some a) 9 second_holds ≡ Fresh (seat 1) (parts 11 (record { entries = []; most = 10; latest = 9 }) 0)
else_least = refl

-- redial: the dropped session counts no longer, so that its own member is dialled again where it has the fewest then
redial_own : redial_member (seat 2) two_members two_out ≡ 1
redial_own = refl

-- and another member where that has fewer
abbrev three : Pool ℕ
three = record { sessions = []; given = 0; max_sessions = 3; sets_max = 10; session_ttl = 300; set_ttl = 60 }

abbrev two_of_first : Pool ℕ
two_of_first = lost (seat 2) (after None 0 (after None 0 (after None 0 three)))

redial_other : redial_member (seat 3) two_members two_of_first ≡ 1
redial_other = refl

redial_moves : (redial (seat 3) two_members two_of_first).sessions ≡ record { number = 1; class = 0; login = None; member = 0; stand = Out (Test 0) } ∷ record { number = 3; class = 0; login = None; member = 1; stand = Out (Test 1) } ∷ []
redial_moves = refl

-- the seat keeps its number
redial_keeps_number : (redial (seat 2) two_members two_out).sessions ≡ record { number = 1; class = 0; login = None; member = 0; stand = Out (Test 0) } ∷ record { number = 2; class = 0; login = None; member = 1; stand = Out (Test 1) } ∷ []
redial_keeps_number = refl

-- a lost session's number is not given again
after_lost : answer None 0 (lost (seat 1) two_out) ≡ Dial (seat 3) 0
after_lost = refl

-- a seat whose session is not out changes nothing
not_out : put (seat 2) (parts 5 (empty_table 10) 1) 7 second_back ≡ second_back
not_out = refl

of_no_class : lost (record { class = 1; number = 1 }) two_out ≡ two_out
of_no_class = refl

redial_not_out : redial_member (seat 2) two_members second_back ≡ 0
redial_not_out = refl

redial_changes_nothing : redial (seat 2) two_members second_back ≡ second_back
redial_changes_nothing = refl

-- a table that may hold more sets than the pool allows goes with its session
too_large : put (seat 2) (parts 22 (empty_table 11) 1) 0 two_out ≡ lost (seat 2) two_out
too_large = refl

-- two members of one address count by the place for which they were dialled
abbrev twice : List Address
twice = Test 0 ∷ Test 0 ∷ []

by_place : (take_of 0 twice None None 0 (take_of 0 twice None None 0 two).1).0 ≡ Dial (seat 2) 1
by_place = refl

-- a session at an address that is not named is not one of the class
other_addresses : (take_of 0 (Test 7 ∷ []) None None 0 second_back).0 ≡ Dial (seat 3) 0
other_addresses = refl

-- after the last number none is dialled
abbrev last_given : Pool ℕ
last_given = record { sessions = []; given = 18446744073709551615; max_sessions = 2; sets_max = 10; session_ttl = 300; set_ttl = 60 }

no_number : answer None 0 last_given ≡ Memory
no_number = refl

-- ---- the pool with logins

-- a take for a login, and the pool after it
abbrev answer_for : List ℕ → Option SetKey → ℕ → Pool ℕ → Taken ℕ
answer_for login want now p = (take_of 0 two_members (Some login) want now p).0

abbrev after_for : List ℕ → Option SetKey → ℕ → Pool ℕ → Pool ℕ
after_for login want now p = (take_of 0 two_members (Some login) want now p).1

abbrev ann : List ℕ
ann = 97 ∷ []

abbrev bob : List ℕ
bob = 98 ∷ []

-- a session at a test target, inside a login
abbrev parts_of : List ℕ → ℕ → Table → ℕ → Parts ℕ
parts_of login session table target = record { session = session; table = table; address = Login (site.Test target) login }

-- Ann's session is out for her, and then idle with a set of the key
abbrev anns : Pool ℕ
anns = put (seat 1) (parts_of ann 11 (after_record 0 a 3 0 (empty_table 10)) 0) 0 (after_for ann None 0 two)

-- she finds it, her set too
ann_reuses : answer_for ann (Some a) 9 anns ≡ Reuse (seat 1) (parts_of ann 11 (after_record 0 a 3 9 (empty_table 10)) 0) 0 3
ann_reuses = refl

ann_takes : answer_for ann None 0 anns ≡ Fresh (seat 1) (parts_of ann 11 (after_record 0 a 3 0 (empty_table 10)) 0)
ann_takes = refl

-- nobody else does: another login is dialled for, and so is none
bob_dials : answer_for bob (Some a) 9 anns ≡ Dial (seat 2) 1
bob_dials = refl

no_login_dials : answer (Some a) 9 anns ≡ Dial (seat 2) 1
no_login_dials = refl

-- the member to dial is that of fewest open sessions, whatever their logins; and Ann's stays idle where there is room for one more
ann_stays : (after_for bob (Some a) 0 anns).sessions ≡ record { number = 1; class = 0; login = Some ann; member = 0; stand = Idle (parts_of ann 11 (after_record 0 a 3 0 (empty_table 10)) 0) 0 } ∷ record { number = 2; class = 0; login = Some bob; member = 1; stand = Out (Test 1) } ∷ []
ann_stays = refl

-- where there is none, the idle one of the least number makes room, and no other; its member is then the one of fewest
abbrev both_anns : Pool ℕ
both_anns = put (seat 2) (parts_of ann 22 (empty_table 10) 1) 0 (put (seat 1) (parts_of ann 11 (empty_table 10) 0) 0 (after_for ann None 0 (after_for ann None 0 two)))

bob_is_dialled : answer_for bob None 0 both_anns ≡ Dial (seat 3) 0
bob_is_dialled = refl

least_makes_room : (after_for bob None 0 both_anns).sessions ≡ record { number = 2; class = 0; login = Some ann; member = 1; stand = Idle (parts_of ann 22 (empty_table 10) 1) 0 } ∷ record { number = 3; class = 0; login = Some bob; member = 0; stand = Out (Test 0) } ∷ []
least_makes_room = refl

-- it is full only where none of the class is idle, of whatever login
then_full_for_all : answer_for bob None 0 (after_for ann None 0 (after_for ann None 0 two)) ≡ Full 2
then_full_for_all = refl

-- where no number is left, none makes room
abbrev last_of_anns : Pool ℕ
last_of_anns = record {
  sessions = both_anns.sessions;
  given = 18446744073709551615;
  max_sessions = 2;
  sets_max = 10;
  session_ttl = 300;
  set_ttl = 60;
}

no_number_no_room : after_for bob None 0 last_of_anns ≡ last_of_anns
no_number_no_room = refl

-- a session that comes back inside another login than it was dialled for is nobody's
abbrev mixed_up : Pool ℕ
mixed_up = put (seat 1) (parts_of bob 11 (empty_table 10) 0) 0 (after_for ann None 0 two)

not_anns : answer_for ann None 0 mixed_up ≡ Dial (seat 2) 1
not_anns = refl

not_bobs : answer_for bob None 0 mixed_up ≡ Dial (seat 2) 1
not_bobs = refl

-- a redial keeps the login
redial_keeps_login : (redial (seat 2) two_members (after_for ann None 0 (after_for bob None 0 two))).sessions ≡ record { number = 1; class = 0; login = Some bob; member = 0; stand = Out (Test 0) } ∷ record { number = 2; class = 0; login = Some ann; member = 1; stand = Out (Test 1) } ∷ []
redial_keeps_login = refl
