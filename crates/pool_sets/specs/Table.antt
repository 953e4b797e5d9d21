-- The sets that a session holds (this project's own)
use Rattle.std.specs.Prelude.{ℕ, ◌-◌, max, nat_lt, Bool, not, ◌==◌, if◌then◌else◌, List, [], ◌∷◌, map, filter, find, Option, None, Some, unwrap_or, is_some}
use Rattle.std.specs.List.{list_all, range_with_len}
use Rattle.z_types.specs.declared.key.SetKey.{SetKey}
use Rattle.z_types.specs.contracts.key.SetKeyPartialEq.TheImpl as key_test

-- a set: the slot whose decimal text is its name at the target, its key, its hits, and the moment
-- of its last use
pub record Entry : Type 0 where
  pub slot : ℕ
  pub key : SetKey
  pub hits : ℕ
  pub used : ℕ

-- the sets, the most recently used first, how many there may be, and the greatest moment that was
-- given
pub record Table : Type 0 where
  pub entries : List Entry
  pub most : ℕ
  pub latest : ℕ

abbrev pub empty_table : ℕ → Table
empty_table most = record { entries = []; most = most; latest = 0 }

-- whether two keys are one
abbrev pub same_key : SetKey → SetKey → Bool
same_key = (key_test.ghosts).eq

-- a moment below the greatest that was given counts as that greatest
abbrev pub moment_of : ℕ → Table → ℕ
moment_of now t = max t.latest now

-- the set of a key
abbrev pub set_of : SetKey → Table → Option Entry
set_of key t = find (λ e. same_key e.key key) t.entries

-- the sets but that of a slot
abbrev pub without : ℕ → List Entry → List Entry
without slot es = filter (λ e. not (slot == e.slot)) es

-- the set that is used comes to the front
abbrev pub to_front : ℕ → Option Entry → List Entry → List Entry
to_front moment None es = es
to_front moment (Some e) es =
    record { slot = e.slot; key = e.key; hits = e.hits; used = moment } ∷ without e.slot es

-- the table after a search for a key, which counts as a use
abbrev pub after_find : SetKey → ℕ → Table → Table
after_find key now t = record {
  entries = to_front (moment_of now t) (set_of key t) t.entries;
  most = t.most;
  latest = moment_of now t;
}

-- no set has the slot
abbrev pub is_free : List Entry → ℕ → Bool
is_free es slot = list_all (λ e. not (slot == e.slot)) es

-- the least free slot
abbrev pub free_slot : Table → Option ℕ
free_slot t = find (is_free t.entries) (range_with_len 0 t.most)

-- the slot of the least recently used set
abbrev pub last_slot : List Entry → ℕ
last_slot [] = 0
last_slot (e ∷ []) = e.slot
last_slot (e ∷ (f ∷ es)) = last_slot (f ∷ es)

-- room for a set is the least free slot, or that of the least recently used set
abbrev pub room : Table → ℕ
room t = unwrap_or (free_slot t) (last_slot t.entries)

-- the table without the set of a slot
abbrev pub after_forget : ℕ → Table → Table
after_forget slot t = record { entries = without slot t.entries; most = t.most; latest = t.latest }

-- the table once room is made: nothing stands under that slot
abbrev pub after_room : Table → Table
after_room t = if is_some (free_slot t) then t else after_forget (last_slot t.entries) t

-- the keys of some sets
abbrev pub keys_in : List Entry → List SetKey
keys_in es = map (λ e. e.key) es

-- a set that was searched for comes first
abbrev pub after_record : ℕ → SetKey → ℕ → ℕ → Table → Table
after_record slot key hits now t = record {
  entries = record { slot = slot; key = key; hits = hits; used = moment_of now t } ∷ t.entries;
  most = t.most;
  latest = moment_of now t;
}

-- the sets that were used less than ttl seconds ago
abbrev pub after_expire : ℕ → ℕ → Table → Table
after_expire now ttl t = record {
  entries = filter (λ e. nat_lt (moment_of now t - e.used) ttl) t.entries;
  most = t.most;
  latest = moment_of now t;
}
