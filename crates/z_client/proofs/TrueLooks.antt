-- A true peer whose reply has come and was heard is one of a session that rests (this project's own)
use Rattle.std.proofs.Common.{◌≡◌, ◌∙◌, inl, ℕ, Bool, true, false, cond, List, [], ◌∷◌, Option, None, Some, Ok, refl, sym, ap, subst}
use Rattle.z_ber.proofs.TreeLaws.{element_one}
use Rattle.unit_forms.specs.Reading.Units.{reply_in}
use Rattle.z_types.specs.Bounds.{most_levels}
use Rattle.z_types.specs.Pending.{Pending, IsPending, resting, opening, asked, broken}
use Rattle.z_types.specs.declared.address.Address.{Address}
use Rattle.z_types.specs.declared.ask.Ask.TheVariants.{Search, Present, Scan}
use Rattle.z_types.specs.declared.key.SetKey.{SetKey}
use Rattle.z_types.specs.declared.replies.Reply.{Reply}
use Rattle.z_types.specs.declared.world.World as world
use Rattle.gw_outside.specs.declared.backends.Heard.{Heard}
use Rattle.gw_outside.specs.declared.backends.Heard.TheVariants.{Opened, Hits, Refused, Items, Gone, Scanned, NotYet, Failed, Memory}
use Rattle.z_types.specs.Same.{is_same}
use Rattle.gw_outside.specs.Peers.{NamedSet, Peer, set_of, answers_at}
use Rattle.gw_outside.specs.Sessions.{Made, Fits, IsWorlds, made_after, pending_after}
use Rattle.gw_outside.specs.Wires.{HandsOver, IsReplyUnit}
use Rattle.z_read.specs.Read.{IsReplyRead}
use Rattle.z_client.specs.Heard.{heard_of}
use Rattle.z_client.proofs.TrueReplies.{heard_is}
use Rattle.z_client.specs.TrueSession.{HoldsOrNothing, AreTrueSets, IsTrueReply, Owes, IsTruePeer, HasCome}

same_key : (key own : SetKey) (hits found : ℕ) → ◌≡◌ {A = Option (SetKey × ℕ)} (Some (own, found)) (Some (key, hits)) → own ≡ key
same_key key own hits found e =
    let pair : ◌≡◌ {A = SetKey × ℕ} (own, found) (key, hits) = cc in
    ap (λ (p : SetKey × ℕ). p.0) pair

same_hits : (key own : SetKey) (hits found : ℕ) → ◌≡◌ {A = Option (SetKey × ℕ)} (Some (own, found)) (Some (key, hits)) → found ≡ hits
same_hits key own hits found e =
    let pair : ◌≡◌ {A = SetKey × ℕ} (own, found) (key, hits) = cc in
    ap (λ (p : SetKey × ℕ). p.1) pair

-- a unit is read as one reply
pub reply_one : (octets : List ℕ) (a b : Reply) → IsReplyUnit octets a → IsReplyRead octets (Ok b) → a ≡ b
reply_one octets a b unit read =
    let trees = (element_one unit.tree read.0 most_levels most_levels octets octets [] [] unit.unit.element read.1.element refl).1 in
    let same : Ok a ≡ Ok b = sym unit.read ∙ ap reply_in trees ∙ read.2 in
    cc

module _ {W : Type 0} (w : world.Ghosts W) (address : Address) (made after : Made) (sets : List NamedSet) where
  -- where nothing is made the sets stay true
  stays : (p : Pending) → AreTrueSets w address made p sets → ((name : List ℕ) → after name ≡ made name)
      → ((name : List ℕ) (key : SetKey) (hits : ℕ) → made name ≡ Some (key, hits) → HoldsOrNothing sets name key)
      → AreTrueSets w address after resting sets
  stays p t same holds = record {
    hits = λ name key hits m. t.hits name key hits (sym (same name) ∙ m);
    holds = λ name key hits apart m. holds name key hits (sym (same name) ∙ m);
    searched = tt;
  }

  -- a set that stands under the name of a search is right
  abbrev IsRight : List ℕ → Option (SetKey × ℕ) → Type 0
  IsRight own found = (key : SetKey) (hits : ℕ) → found ≡ Some (key, hits)
      → (w.search address key ≡ Ok hits) × ((name : List ℕ) → is_same own name ≡ true → HoldsOrNothing sets name key)

  module _ (own : List ℕ) (key : SetKey) (t : AreTrueSets w address made (asked (Search own key)) sets) where
    right_at : (found : Option (SetKey × ℕ)) → IsRight own found → (b : Bool) (name : List ℕ) → is_same own name ≡ b
        → (k : SetKey) (n : ℕ) → cond b found (made name) ≡ Some (k, n) → (w.search address k ≡ Ok n) × HoldsOrNothing sets name k
    right_at found right true name e k n m = let r = right k n m in (r.0, r.1 name e)
    right_at found right false name e k n m = (t.hits name k n m, t.holds name k n e m)

    -- what was found takes the place of what its name had
    takes_place : (found : Option (SetKey × ℕ)) → IsRight own found → ((name : List ℕ) → after name ≡ cond (is_same own name) found (made name))
        → AreTrueSets w address after resting sets
    takes_place found right same = record {
      hits = λ name k n m. (right_at found right (is_same own name) name refl k n (sym (same name) ∙ m)).0;
      holds = λ name k n apart m. (right_at found right (is_same own name) name refl k n (sym (same name) ∙ m)).1;
      searched = tt;
    }

    found_right : (hits : ℕ) → w.search address key ≡ Ok hits → IsRight own (Some (key, hits))
    found_right hits e k n m = (
      ap (λ at. w.search address at) (sym (same_key k key n hits m)) ∙ e ∙ ap (λ count. Ok count) (same_hits k key n hits m),
      λ name named. inl (t.searched name named ∙ ap (λ answer. set_of key answer) e ∙ ap (λ at. Some at) (same_key k key n hits m)),
    )

    none_right : IsRight own None
    none_right k n m = absurd cc

    search_heard_true : (heard : Heard) → Fits (asked (Search own key)) heard → pending_after (asked (Search own key)) heard ≡ resting
        → IsWorlds w address made (asked (Search own key)) heard
        → ((name : List ℕ) → after name ≡ made_after (asked (Search own key)) heard made name) → AreTrueSets w address after resting sets
    search_heard_true Opened fits rests worlds same = absurd fits
    search_heard_true (Hits hits) fits rests worlds same = takes_place (Some (key, hits)) (found_right hits worlds) same
    search_heard_true (Refused diag) fits rests worlds same = takes_place None none_right same
    search_heard_true (Items items) fits rests worlds same = absurd fits
    search_heard_true Gone fits rests worlds same = absurd fits
    search_heard_true (Scanned answer) fits rests worlds same = absurd fits
    search_heard_true NotYet fits rests worlds same = absurd cc
    search_heard_true Failed fits rests worlds same = absurd cc
    search_heard_true Memory fits rests worlds same = absurd cc

  -- the sets are true once an answer was heard
  pub heard_true : (p : Pending) (heard : Heard) → IsPending p → AreTrueSets w address made p sets → Fits p heard → pending_after p heard ≡ resting
      → IsWorlds w address made p heard → ((name : List ℕ) → after name ≡ made_after p heard made name) → AreTrueSets w address after resting sets
  heard_true resting heard is t fits rests worlds same = absurd is
  heard_true broken heard is t fits rests worlds same = absurd is
  heard_true opening heard is t fits rests worlds same = stays opening t same (λ name key hits m. t.holds name key hits refl m)
  heard_true (asked (Search own key)) heard is t fits rests worlds same = search_heard_true own key t heard fits rests worlds same
  heard_true (asked (Present name first count syntax element)) heard is t fits rests worlds same =
      stays (asked (Present name first count syntax element)) t same (λ name key hits m. t.holds name key hits refl m)
  heard_true (asked (Scan dbs ask)) heard is t fits rests worlds same =
      stays (asked (Scan dbs ask)) t same (λ name key hits m. t.holds name key hits refl m)

module _ {W : Type 0} (w : world.Ghosts W) (address : Address) (made : Made) where
  owes_one : (p : Pending) (owed : List Reply) → IsPending p → Owes w address made p owed
      → (reply : Reply) × (owed ≡ reply ∷ []) × IsTrueReply w address made p reply
  owes_one resting owed is h = absurd is
  owes_one broken owed is h = absurd is
  owes_one opening owed is h = h
  owes_one (asked ask) owed is h = h

  same_head : (a b : Reply) (xs ys : List Reply) → a ∷ xs ≡ b ∷ ys → a ≡ b
  same_head a b xs ys e = cc

  same_tail : (a b : Reply) (xs ys : List Reply) → a ∷ xs ≡ b ∷ ys → xs ≡ ys
  same_tail a b xs ys e = cc

  -- a reply that is handed over is the one that is owed
  pub has_come : (p : Pending) (old new : Peer) (octets : List ℕ) → IsPending p → IsTruePeer w address made p old
      → HandsOver old new octets → HasCome w address made p new octets
  has_come p old new octets is t h =
      let one = owes_one p old.owed is t.owed in
      let both : one.0 ∷ [] ≡ h.reply ∷ h.rest = sym one.1 ∙ h.was_owed in
      record {
        same_address = ap answers_at h.still_owed ∙ t.same_address;
        sets = subst (λ sets. AreTrueSets w address made p sets) (sym (ap (λ (peer : Peer). peer.sets) h.still_owed)) t.sets;
        owed = ap (λ (peer : Peer). peer.owed) h.still_owed ∙ sym (same_tail one.0 h.reply [] h.rest both);
        reply = h.reply;
        unit = h.unit;
        right = subst (λ reply. IsTrueReply w address made p reply) (same_head one.0 h.reply [] h.rest both) one.2;
      }

  -- what is heard of it is the world's
  pub come_worlds : (p : Pending) (peer : Peer) (octets : List ℕ) (reply : Reply) (heard : Heard) → HasCome w address made p peer octets
      → IsReplyRead octets (Ok reply) → heard_of p reply ≡ Some heard → IsWorlds w address made p heard
  come_worlds p peer octets reply heard h read e =
      let same = sym h.right.heard ∙ ap (λ said. heard_of p said) (reply_one octets h.reply reply h.unit read) ∙ e in
      heard_is (λ a. IsWorlds w address made p a) h.right.answer heard h.right.worlds same

  -- and something is
  pub come_heard : {P : Type 0} (p : Pending) (peer : Peer) (octets : List ℕ) → HasCome w address made p peer octets
      → ((reply : Reply) → IsReplyUnit octets reply → heard_of p reply ≡ None) → P
  come_heard p peer octets h none =
      let no_way : None ≡ Some h.right.answer = sym (none h.reply h.unit) ∙ h.right.heard in
      absurd cc

  -- and then the session rests
  pub come_rests : (p : Pending) (peer : Peer) (octets : List ℕ) (heard : Heard) (after : Made) → IsPending p → HasCome w address made p peer octets
      → Fits p heard → pending_after p heard ≡ resting → IsWorlds w address made p heard
      → ((name : List ℕ) → after name ≡ made_after p heard made name) → IsTruePeer w address after resting peer
  come_rests p peer octets heard after is h fits rests worlds same = record {
    same_address = h.same_address;
    sets = heard_true w address made after peer.sets p heard is h.sets fits rests worlds same;
    owed = h.owed;
  }
