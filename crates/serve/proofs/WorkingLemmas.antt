-- What a worker has done behind one more connection, and behind an accept that gave none.
use Rattle.std.proofs.Common.{◌≡◌, ℕ, ◌+◌, ◌-◌, List, [], ◌∷◌, ◌++◌, length, Option, Some, None, refl, sym, ap, ◌∙◌, subst, append_assoc, append-nil, arith}
use Rattle.std.specs.Prelude.{option_map}
use Rattle.std.specs.List.{AllZip}
use Rattle.std.proofs.lemmas.List.{length_push}
use Rattle.z_types.specs.declared.world.World as world
use Rattle.route_config.specs.declared.route.Route.{Route}
use Rattle.gw_outside.specs.declared.accepts.Accepted.TheVariants.{Connection, Ended, Failed}
use Rattle.gw_outside.specs.declared.sinks.Sink as to
use Rattle.gw_outside.specs.declared.sources.Source as from
use Rattle.gw_outside.specs.Accepts.{AcceptFits, IsNewConnection}
use Rattle.conn_served.specs.Serving.{IsServed, streams}
use Rattle.conn_served.specs.declared.served.Served.{Served}
use Rattle.serve.specs.Working.{AreTaken, HasWorked, IsListed, WorkerView}

-- ---- lists

-- one more at the end of both
zip-push : {A B : Type 0} (R : A → B → Type 0) (xs : List A) (ys : List B) (x : A) (y : B) → AllZip R xs ys → R x y
    → AllZip R (xs ++ x ∷ []) (ys ++ y ∷ [])
zip-push R [] [] x y all one = (one, tt)
zip-push R [] (b ∷ ys) x y all one = absurd all
zip-push R (a ∷ xs) [] x y all one = absurd all
zip-push R (a ∷ xs) (b ∷ ys) x y all one = (all.0, zip-push R xs ys x y all.1 one)

mapped-nil : {A : Type 0} (told : Option (List A)) → told ≡ option_map (λ earlier. earlier ++ []) told
mapped-nil None = refl
mapped-nil (Some items) = ap Some (sym (append-nil items))

mapped-more : {A : Type 0} (told : Option (List A)) (some : List A) (one : A)
    → option_map (λ earlier. earlier ++ one ∷ []) (option_map (λ earlier. earlier ++ some) told)
    ≡ option_map (λ earlier. earlier ++ (some ++ one ∷ [])) told
mapped-more None some one = refl
mapped-more (Some items) some one = ap Some (append_assoc items some (one ∷ []))

-- ---- numbers that may be told

out-again : (told : Option ℕ) → option_map (λ count. count - 1) (option_map (λ count. count + 1) told) ≡ told
out-again None = refl
out-again (Some count) = ap Some (omega arith)

taken-none : (told : Option ℕ) → AreTaken 0 told told
taken-none None = refl
taken-none (Some left) = (omega arith, ap Some (omega arith))

module _ {I K : Type 0} where
  taken-more : (old mid new : Option ℕ) (count more : ℕ) (input : I) (output : K) → more ≡ count + 1 → AreTaken count old mid
      → AcceptFits mid new (Connection input output) → AreTaken more old new
  taken-more None mid new count more input output e taken fits =
      subst (λ (m : Option ℕ). AcceptFits m new (Connection input output)) taken fits
  taken-more (Some left) mid new count more input output e taken fits =
      let one = subst (λ (m : Option ℕ). AcceptFits m new (Connection input output)) taken.1 fits in
      (omega (arith, e, one.0), one.1 ∙ ap Some (omega (arith, e, one.0)))

-- an accept that gives no connection takes none
pub ended-same : (I K : Type 0) (old new : Option ℕ) → AcceptFits {I = I} {O = K} old new Ended → new ≡ old
ended-same I K None new fits = fits
ended-same I K (Some left) new fits = fits.1

pub failed-same : (I K : Type 0) (old new : Option ℕ) → AcceptFits {I = I} {O = K} old new Failed → new ≡ old
failed-same I K None new fits = fits
failed-same I K (Some left) new fits = fits

-- ---- a worker

module _ {W I K : Type 0} (w : world.Ghosts W) (i : from.Ghosts I) (k : to.Ghosts K) (route : Route) where
  -- nothing was done
  pub worked-none : (view : WorkerView I K) → HasWorked w i k route view view
  worked-none view = record {
    connections = [];
    others = [];
    served = sym (append-nil view.served);
    closed = mapped-nil view.closed;
    each = tt;
    taken = taken-none view.left;
    out = refl;
  }

  -- nothing more was done
  pub worked-same : (old mid new : WorkerView I K) → HasWorked w i k route old mid → new.served ≡ mid.served → new.left ≡ mid.left
      → new.closed ≡ mid.closed → new.out ≡ mid.out → HasWorked w i k route old new
  worked-same old mid new h served left closed out = record {
    connections = h.connections;
    others = h.others;
    served = served ∙ h.served;
    closed = closed ∙ h.closed;
    each = h.each;
    taken = subst (λ (m : Option ℕ). AreTaken (length h.others) old.left m) (sym left) h.taken;
    out = out ∙ h.out;
  }

  new-since : (old mid : Option ℕ) (count : ℕ) (input : I) (output : K) → AreTaken count old mid
      → IsNewConnection i k mid (Connection input output) → IsNewConnection i k old (Connection input output)
  new-since None mid count input output taken is_new = tt
  new-since (Some left) mid count input output taken is_new =
      subst (λ (m : Option ℕ). IsNewConnection i k m (Connection input output)) taken.1 is_new

  -- one connection more was taken, served and handed back
  pub worked-more : (old mid new : WorkerView I K) (input : I) (output : K) (connection : I × K) (came : Served)
      → HasWorked w i k route old mid → new.served ≡ mid.served ++ came ∷ []
      → new.closed ≡ option_map (λ earlier. earlier ++ connection ∷ []) mid.closed
      → AcceptFits mid.left new.left (Connection input output) → IsNewConnection i k mid.left (Connection input output)
      → new.out ≡ option_map (λ count. count - 1) (option_map (λ count. count + 1) mid.out)
      → IsServed w route (streams i k input output) (streams i k connection.0 connection.1) came.marks came.end
      → HasWorked w i k route old new
  worked-more old mid new input output connection came h served closed fits is_new out is_served = record {
    connections = h.connections ++ connection ∷ [];
    others = h.others ++ came ∷ [];
    served = served ∙ ap (λ earlier. earlier ++ came ∷ []) h.served ∙ append_assoc old.served h.others (came ∷ []);
    closed = closed ∙ ap (λ told. option_map (λ earlier. earlier ++ connection ∷ []) told) h.closed
        ∙ mapped-more old.closed h.connections connection;
    each = zip-push (IsListed w i k route old.left) h.connections h.others connection came h.each (record {
      input = input;
      output = output;
      is_new = new-since old.left mid.left (length h.others) input output h.taken is_new;
      is_served = is_served;
    });
    taken = taken-more old.left mid.left new.left (length h.others) (length (h.others ++ came ∷ [])) input output
        (length_push h.others came) h.taken fits;
    out = out ∙ out-again mid.out ∙ h.out;
  }
