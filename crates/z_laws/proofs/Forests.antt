-- Elements one after another, and on how many levels they stand.
use Rattle.std.proofs.Common.{◌≡◌, ◌∙◌, ℕ, zero, suc, ◌≤◌, Bool, false, max, List, ◌++◌, sym, ap, subst, append_assoc, arith, refl}
use Rattle.std.proofs.Math.Nat.{le_trans, max-le, le-max_left, le-max_right}
use Rattle.z_ber.specs.Element.{Forest, none, leaf, branch, AreElements}

-- elements, and others behind them
abbrev pub joined : Forest → Forest → Forest
joined none after = after
joined (leaf tag contents others) after = leaf tag contents (joined others after)
joined (branch tag contents inner others) after = branch tag contents inner (joined others after)

pub joined-none : (f : Forest) → joined f none ≡ f
joined-none none = refl
joined-none (leaf tag contents others) = ap (leaf tag contents) (joined-none others)
joined-none (branch tag contents inner others) = ap (branch tag contents inner) (joined-none others)

pub joined-joined : (f g h : Forest) → joined (joined f g) h ≡ joined f (joined g h)
joined-joined none g h = refl
joined-joined (leaf tag contents others) g h = ap (leaf tag contents) (joined-joined others g h)
joined-joined (branch tag contents inner others) g h = ap (branch tag contents inner) (joined-joined others g h)

-- on how many levels elements stand
abbrev pub levels : Forest → ℕ
levels none = 0
levels (leaf tag contents others) = max 1 (levels others)
levels (branch tag contents inner others) = max (suc (levels inner)) (levels others)

-- elements on at most `most` levels
pub record IsLow (most : ℕ) (forest : Forest) : Type 0 where
  pub within : levels forest ≤ most

low_joined : (n : ℕ) (f g : Forest) → levels f ≤ n → levels g ≤ n → levels (joined f g) ≤ n
low_joined n none g p q = q
low_joined n (leaf tag contents others) g p q =
    let first : 1 ≤ n = le_trans (le-max_left 1 (levels others)) p in
    let rest : levels others ≤ n = le_trans (le-max_right 1 (levels others)) p in
    max-le first (low_joined n others g rest q)
low_joined n (branch tag contents inner others) g p q =
    let first : suc (levels inner) ≤ n = le_trans (le-max_left (suc (levels inner)) (levels others)) p in
    let rest : levels others ≤ n = le_trans (le-max_right (suc (levels inner)) (levels others)) p in
    max-le first (low_joined n others g rest q)

pub joined-left : (f g : Forest) → levels f ≤ levels (joined f g)
joined-left none g = omega arith
joined-left (leaf tag contents others) g =
    max-le (le-max_left 1 (levels (joined others g))) (le_trans (joined-left others g) (le-max_right 1 (levels (joined others g))))
joined-left (branch tag contents inner others) g =
    max-le (le-max_left (suc (levels inner)) (levels (joined others g))) (le_trans (joined-left others g) (le-max_right (suc (levels inner)) (levels (joined others g))))

pub joined-right : (f g : Forest) → levels g ≤ levels (joined f g)
joined-right none g = omega arith
joined-right (leaf tag contents others) g =
    le_trans (joined-right others g) (le-max_right 1 (levels (joined others g)))
joined-right (branch tag contents inner others) g =
    le_trans (joined-right others g) (le-max_right (suc (levels inner)) (levels (joined others g)))

pub low-joined : {n : ℕ} {f g : Forest} → IsLow n f → IsLow n g → IsLow n (joined f g)
low-joined {n} {f} {g} p q = record { within = low_joined n f g p.within q.within }

pub low-none : {n : ℕ} → IsLow n none
low-none {n} = record { within = omega arith }

-- ---- elements that stand one behind the other

pub are-joined : (n : ℕ) (a b : List ℕ) (f g : Forest) → AreElements false n a f → AreElements false n b g → AreElements false n (a ++ b) (joined f g)
are-joined n a b none g p q = subst (λ (o : List ℕ). AreElements false n (o ++ b) g) (sym p) q
are-joined zero a b (leaf t c others) g p q = absurd p
are-joined zero a b (branch t c inner others) g p q = absurd p
are-joined (suc n) a b (leaf t c others) g p q = record {
  first = p.first;
  others = p.others ++ b;
  here = p.here;
  apart = p.apart;
  behind = are-joined (suc n) p.others b others g p.behind q;
  spelled = ap (λ o. o ++ b) p.spelled ∙ append_assoc p.first p.others b;
}
are-joined (suc n) a b (branch t c inner others) g p q = record {
  first = p.first;
  others = p.others ++ b;
  here = p.here;
  apart = p.apart;
  behind = are-joined (suc n) p.others b others g p.behind q;
  spelled = ap (λ o. o ++ b) p.spelled ∙ append_assoc p.first p.others b;
}

-- elements stand on as many levels as they need
pub levels-least : (f : Forest) (w : Bool) (m : ℕ) (o : List ℕ) → AreElements w m o f → levels f ≤ m
levels-least none w m o p = omega arith
levels-least (leaf t c others) w zero o p = absurd p
levels-least (branch t c inner others) w zero o p = absurd p
levels-least (leaf t c others) w (suc m) o p = max-le (omega arith) (levels-least others w (suc m) p.others p.behind)
levels-least (branch t c inner others) w (suc m) o p =
    let deeper = levels-least inner p.here.indefinite m c p.here.inner in
    max-le (omega arith) (levels-least others w (suc m) p.others p.behind)

-- and on any more of them
pub are-on : (f : Forest) (w : Bool) (m n : ℕ) (o : List ℕ) → AreElements w m o f → levels f ≤ n → AreElements w n o f
are-on none w m n o p h = p
are-on (leaf t c others) w zero n o p h = absurd p
are-on (branch t c inner others) w zero n o p h = absurd p
are-on (leaf t c others) w (suc m) zero o p h = absurd (let l = le_trans (le-max_left 1 (levels others)) h in omega arith)
are-on (branch t c inner others) w (suc m) zero o p h = absurd (let l = le_trans (le-max_left (suc (levels inner)) (levels others)) h in omega arith)
are-on (leaf t c others) w (suc m) (suc n) o p h = record {
  first = p.first;
  others = p.others;
  here = p.here;
  apart = p.apart;
  behind = are-on others w (suc m) (suc n) p.others p.behind (le_trans (le-max_right 1 (levels others)) h);
  spelled = p.spelled;
}
are-on (branch t c inner others) w (suc m) (suc n) o p h =
    let deeper : suc (levels inner) ≤ suc n = le_trans (le-max_left (suc (levels inner)) (levels others)) h in
    record {
      first = p.first;
      others = p.others;
      here = record {
        constructed = p.here.constructed;
        indefinite = p.here.indefinite;
        head = p.here.head;
        header = p.here.header;
        inner = are-on inner p.here.indefinite m n c p.here.inner (omega arith);
        spelled = p.here.spelled;
      };
      apart = p.apart;
      behind = are-on others w (suc m) (suc n) p.others p.behind (le_trans (le-max_right (suc (levels inner)) (levels others)) h);
      spelled = p.spelled;
    }
