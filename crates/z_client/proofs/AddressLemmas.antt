-- Addresses apart from their logins, and together again (this project's own)
use Rattle.std.proofs.Common.{◌≡◌, ◌∙◌, ℕ, true, List, Option, None, Some, refl, sym, ap, subst}
use Rattle.z_types.specs.Logins.{site_of, login_of, inner, inside}
use Rattle.z_types.specs.equality.Tests.{both_true}
use Rattle.z_types.specs.declared.address.Address.{Address}
use Rattle.z_types.specs.declared.address.Address.TheVariants.{Test, Tcp, Login}
use Rattle.z_types.specs.declared.address.Site.TheVariants as site
use Rattle.z_types.specs.declared.ask.Ask.{Ask}
use Rattle.z_types.specs.declared.ask.Ask.TheVariants.{Search, Present, Scan}
use Rattle.z_types.specs.declared.replies.Reply.{Reply}
use Rattle.z_types.specs.declared.requests.Request.{Request}
use Rattle.z_types.specs.declared.replies.Reply.TheVariants as reply
use Rattle.z_types.specs.Services.{has_named_result_sets}
use Rattle.gw_outside.specs.Happened.{Happened, IsAsked, IsAskedAt, at_site, at_address}
use Rattle.gw_outside.specs.Peers.{Peer, answers_at, login_after}
use Rattle.gw_outside.specs.Replies.{accepts, is_accepted}
use Rattle.z_client.specs.Units.{request_of}

-- the inner address inside its login is the address
pub again : (address : Address) → inside (login_of address) (inner address) ≡ address
again (Test n) = refl
again (Tcp host port) = refl
again (Login (site.Test n) login) = refl
again (Login (site.Tcp host port) login) = refl

-- what happens at an address happens at its site
site_is : (h : Happened) (address : Address) → at_address h address ≡ at_site h (site_of address)
site_is h (Test n) = refl
site_is h (Tcp host port) = refl
site_is h (Login at login) = refl

pub at_inner : (h : Happened) (address : Address) → at_address h (inner address) ≡ at_address h address
at_inner h (Test n) = refl
at_inner h (Tcp host port) = refl
at_inner h (Login (site.Test n) login) = refl
at_inner h (Login (site.Tcp host port) login) = refl

at_inside : (h : Happened) (login : Option (List ℕ)) (address : Address) → at_address h (inside login address) ≡ at_address h address
at_inside h None address = refl
at_inside h (Some login) address = sym (site_is h address)

-- what happens to a peer happens at the address by which it answers
pub peer_at : (h : Happened) (peer : Peer) (address : Address) → answers_at peer ≡ address → at_address h peer.address ≡ at_address h address
peer_at h peer address e = sym (at_inside h peer.login peer.address) ∙ ap (at_address h) e

-- so does what is left of it after a request
module _ (h then_ : Happened) (req : Request) where
  asked_site : (address : Address) → IsAsked address req h then_ → IsAskedAt (site_of address) req h then_
  asked_site (Test n) s = s
  asked_site (Tcp host port) s = s
  asked_site (Login at login) s = s

  asked_inside : (login : Option (List ℕ)) (address : Address) → IsAsked address req h then_ → IsAsked (inside login address) req h then_
  asked_inside None address s = s
  asked_inside (Some login) address s = asked_site address s

  pub peer_asked : (peer : Peer) (address : Address) → answers_at peer ≡ address → IsAsked peer.address req h then_ → IsAsked address req h then_
  peer_asked peer address e s = subst (λ at. IsAsked at req h then_) e (asked_inside peer.login peer.address s)

-- a peer that keeps its address and its login answers by the same address
pub answers_same : (old new : Peer) → new.address ≡ old.address → new.login ≡ old.login → answers_at new ≡ answers_at old
answers_same old new a l = ap (inside new.login) a ∙ ap (λ login. inside login old.address) l

-- an ask leaves the login
pub asked_login : (login : Option (List ℕ)) (ask : Ask) (answer : Reply) → login_after login (request_of ask) answer ≡ login
asked_login login (Search name key) answer = refl
asked_login login (Present name first count syntax element) answer = refl
asked_login login (Scan dbs ask) answer = refl

-- an Init that is accepted with named result sets is accepted
pub accepted_is : (answer : Reply) → accepts answer ≡ true → is_accepted answer ≡ true
accepted_is (reply.Init init result) e = (both_true result (has_named_result_sets init.options) e).0
accepted_is (reply.Search ref_id count returned next ok status body) e = absurd cc
accepted_is (reply.Present ref_id returned next status body) e = absurd cc
accepted_is (reply.Scan ref_id status answer diags) e = absurd cc
accepted_is (reply.Close close) e = absurd cc
