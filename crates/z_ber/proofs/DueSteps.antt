-- How the place where a header is due moves on, and what stands there of an element that the octets begin with.
use Rattle.std.proofs.Common.{◌≡◌, ◌∙◌, ℕ, ◌+◌, ◌-◌, ◌<◌, zero, suc, inl, inr, List, [], ◌∷◌, ◌++◌, length, Some, None, sym, ap, subst, append_assoc, arith, refl}
use Rattle.std.specs.List.{AllByRecursion}
use Rattle.std.proofs.lemmas.List.{append-nil}
use Rattle.z_ber.specs.declared.tag.Tag.{Tag}
use Rattle.z_ber.specs.Header.{IsHeader, Begins}
use Rattle.z_ber.specs.Element.{end_of_contents}
use Rattle.z_ber.specs.Frames.{IsFrameAt}
use Rattle.z_ber.specs.Due.{IsOpened, IsDue}
use Rattle.z_ber.proofs.HeaderReading.{Whole}
use Rattle.z_ber.proofs.TreeLaws.{heads_one, is_end, none_some}
use Rattle.z_ber.proofs.StepReading.{head_apart}
use Rattle.z_ber.proofs.CloseReading.{Indefinite, extent-indefinite, extent-cases, extent-none, Inner, joined, Closes, closes_frame, closes_open, indefinite_apart, Peeled, peel_end, peel_whole, peel_open, peel}
use Rattle.z_ber.proofs.ExtentReading.{same_header, closes_of}
use Rattle.z_ber.proofs.LendLaws.{extent-one}

-- ---- one frame more

each_more : (P : List ℕ → Type 0) (fs : List (List ℕ)) (f : List ℕ) → AllByRecursion P fs → P f → AllByRecursion P (fs ++ f ∷ [])
each_more P [] f each h = (h, tt)
each_more P (g ∷ fs) f each h = (each.0, each_more P fs f each.1 h)

joined_more : (fs : List (List ℕ)) (f x : List ℕ) → joined fs ++ (f ++ x) ≡ joined (fs ++ f ∷ []) ++ x
joined_more [] f x = sym (append_assoc f [] x)
joined_more (g ∷ fs) f x =
    append_assoc g (joined fs) (f ++ x) ∙ ap (λ o. g ++ o) (joined_more fs f x) ∙ sym (append_assoc g (joined (fs ++ f ∷ [])) x)

opened_more : (levels : ℕ) (octets inner f after : List ℕ) → IsOpened levels octets inner → inner ≡ f ++ after → Inner levels f → IsOpened levels octets after
opened_more levels octets inner f after o e i = record {
  tag = o.tag;
  head = o.head;
  header = o.header;
  frames = o.frames ++ f ∷ [];
  each = each_more (Inner levels) o.frames f o.each i;
  spelled = o.spelled ∙ ap (λ x. o.head ++ x) (ap (λ x. joined o.frames ++ x) e ∙ joined_more o.frames f after);
}

-- ---- the steps

-- an element that is passed
pub due_whole : (o levels : ℕ) (octets : List ℕ) (left : ℕ) (rest f after : List ℕ) → IsDue (suc o) levels octets left rest → rest ≡ f ++ after → Inner left f → IsDue (suc o) levels octets left after
due_whole zero levels octets left rest f after d e i =
    (after, opened_more (levels - 1) octets d.0 f after d.1 (sym d.3.1 ∙ e) (subst (λ (k : ℕ). Inner k f) d.3.0 i), d.2, (d.3.0, refl))
due_whole (suc o) levels octets left rest f after d e i =
    (d.0, d.1, d.2, due_whole o (levels - 1) d.0 left rest f after d.3 e i)

-- an element that is entered
pub due_open : (o levels : ℕ) (octets : List ℕ) (left : ℕ) (rest head after : List ℕ) (t : Tag) → IsDue o levels octets left rest → rest ≡ head ++ after → IsHeader head t None → 0 < left → IsDue (suc o) levels octets (left - 1) after
due_open zero levels octets left rest head after t d e h some =
    let opened : IsOpened (levels - 1) octets after = record { tag = t; head = head; header = h; frames = []; each = tt; spelled = sym d.1 ∙ e } in
    (after, opened, omega (arith, d.0, some), (omega (arith, d.0), refl))
due_open (suc o) levels octets left rest head after t d e h some =
    (d.0, d.1, d.2, due_open o (levels - 1) d.0 left rest head after t d.3 e h some)

regroup : (a b c d : List ℕ) → a ++ (b ++ (c ++ d)) ≡ ((a ++ b) ++ c) ++ d
regroup a b c d = sym (append_assoc (a ++ b) c d ∙ append_assoc a b (c ++ d))

-- an opened element and its end are a frame
closed_frame : (levels : ℕ) (octets inner after : List ℕ) (o : IsOpened (levels - 1) octets inner) → 0 < levels → Inner levels ((o.head ++ joined o.frames) ++ end_of_contents)
closed_frame levels octets inner after o some =
    let d : Indefinite (levels - 1) ((o.head ++ joined o.frames) ++ end_of_contents) o.tag (joined o.frames) = record { head = o.head; header = o.header; frames = o.frames; each = o.each; inside = refl; spelled = refl } in
    let i : Inner (suc (levels - 1)) ((o.head ++ joined o.frames) ++ end_of_contents) = ((o.tag, joined o.frames, extent-indefinite (levels - 1) _ _ o.tag d), indefinite_apart (levels - 1) _ _ o.tag d) in
    let e : suc (levels - 1) ≡ levels = omega (arith, some) in
    subst (λ (n : ℕ). Inner n ((o.head ++ joined o.frames) ++ end_of_contents)) e i

-- an element that ends
pub due_end : (o levels : ℕ) (octets : List ℕ) (left : ℕ) (rest after : List ℕ) → IsDue (suc (suc o)) levels octets left rest → rest ≡ end_of_contents ++ after → IsDue (suc o) levels octets (suc left) after
due_end zero levels octets left rest after d e =
    let p = d.3 in
    let b = p.1 in
    let i : Inner (levels - 1) ((b.head ++ joined b.frames) ++ end_of_contents) = closed_frame (levels - 1) d.0 p.0 after b p.2 in
    let s : d.0 ≡ ((b.head ++ joined b.frames) ++ end_of_contents) ++ after =
    b.spelled ∙ ap (λ x. b.head ++ (joined b.frames ++ x)) (sym p.3.1 ∙ e) ∙ regroup b.head (joined b.frames) end_of_contents after
    in
    (after, opened_more (levels - 1) octets d.0 ((b.head ++ joined b.frames) ++ end_of_contents) after d.1 s i, d.2, (omega (arith, p.3.0, p.2), refl))
due_end (suc o) levels octets left rest after d e =
    (d.0, d.1, d.2, due_end o (levels - 1) d.0 left rest after d.3 e)

-- the place stays where it is when octets come behind it
pub due_more : (o levels : ℕ) (octets : List ℕ) (left : ℕ) (rest more : List ℕ) → IsDue o levels octets left rest → IsDue o levels (octets ++ more) left (rest ++ more)
due_more zero levels octets left rest more d = (d.0, ap (λ x. x ++ more) d.1)
due_more (suc o) levels octets left rest more d =
    let b = d.1 in
    let s : octets ++ more ≡ b.head ++ (joined b.frames ++ (d.0 ++ more)) =
    ap (λ x. x ++ more) b.spelled ∙ append_assoc b.head (joined b.frames ++ d.0) more ∙ ap (λ x. b.head ++ x) (append_assoc (joined b.frames) d.0 more)
    in
    let opened : IsOpened (levels - 1) (octets ++ more) (d.0 ++ more) = record { tag = b.tag; head = b.head; header = b.header; frames = b.frames; each = b.each; spelled = s } in
    (d.0 ++ more, opened, d.2, due_more o (levels - 1) d.0 left rest more d.3)

-- each open element is a level
pub due_left : (o levels : ℕ) (octets : List ℕ) (left : ℕ) (rest : List ℕ) → IsDue o levels octets left rest → left + o ≡ levels
due_left zero levels octets left rest d = omega (arith, d.0)
due_left (suc o) levels octets left rest d =
    omega (arith, due_left o (levels - 1) d.0 left rest d.3, d.2)

-- ---- where the elements that are open close, the octets begin with a frame

closes_frames : (o room : ℕ) (fs : List (List ℕ)) (x tail : List ℕ) → AllByRecursion (Inner room) fs → Closes (suc o) room x tail → Closes (suc o) room (joined fs ++ x) tail
closes_frames o room [] x tail each c = c
closes_frames o room (f ∷ fs) x tail each c =
    closes_frame o room (joined (f ∷ fs) ++ x) f (joined fs ++ x) tail each.0 (append_assoc f (joined fs) x) (closes_frames o room fs x tail each.1 c)

closes_inward : (o j m levels : ℕ) (octets : List ℕ) (left : ℕ) (rest tail : List ℕ) → m ≡ suc j + o → IsDue o levels octets left rest → Closes m left rest tail → Closes (suc j) levels octets tail
closes_inward zero j m levels octets left rest tail e d c =
    let n : m ≡ suc j = omega (arith, e) in
    subst (λ (x : List ℕ). Closes (suc j) levels x tail) d.1 (subst (λ (k : ℕ). Closes (suc j) k rest tail) d.0 (subst (λ (k : ℕ). Closes k left rest tail) n c))
closes_inward (suc o) j m levels octets left rest tail e d c =
    let b = d.1 in
    let n : m ≡ suc (suc j) + o = omega (arith, e) in
    let inner : Closes (suc (suc j)) (levels - 1) d.0 tail = closes_inward o (suc j) m (levels - 1) d.0 left rest tail n d.3 c in
    let all : Closes (suc (suc j)) (levels - 1) (joined b.frames ++ d.0) tail = closes_frames (suc j) (levels - 1) b.frames d.0 tail b.each inner in
    let k : suc (levels - 1) ≡ levels = omega (arith, d.2) in
    subst (λ (l : ℕ). Closes (suc j) l octets tail) k (closes_open j (levels - 1) octets b.head (joined b.frames ++ d.0) tail b.tag b.header b.spelled all)

-- the frame behind an indefinite header whose contents close
closed_begins : (k : ℕ) (b : List ℕ) (t : Tag) (head body tail : List ℕ) → IsHeader head t None → b ≡ head ++ body → Closes 1 k body tail → (s : Begins (IsFrameAt (suc k)) b) × (s.1 ≡ tail)
closed_begins k b t head body tail h e c =
    let d : Indefinite k ((head ++ joined c.frames) ++ end_of_contents) t (joined c.frames) = record { head = head; header = h; frames = c.frames; each = c.each; inside = refl; spelled = refl } in
    let s : b ≡ ((head ++ joined c.frames) ++ end_of_contents) ++ tail =
    e ∙ ap (λ o. head ++ o) (c.spelled ∙ ap (λ o. joined c.frames ++ (end_of_contents ++ o)) c.behind) ∙ regroup head (joined c.frames) end_of_contents tail
    in
    (((head ++ joined c.frames) ++ end_of_contents, tail, (t, joined c.frames, extent-indefinite k _ _ t d), s), refl)

-- and what follows it is what follows their ends
pub due_begins : (o levels : ℕ) (octets : List ℕ) (left : ℕ) (rest tail : List ℕ) → IsDue (suc o) levels octets left rest → Closes (suc o) left rest tail → (s : Begins (IsFrameAt levels) octets) × (s.1 ≡ tail)
due_begins o levels octets left rest tail d c =
    let b = d.1 in
    let inner : Closes 1 (levels - 1) d.0 tail = closes_inward o 0 (suc o) (levels - 1) d.0 left rest tail (omega arith) d.3 c in
    let all : Closes 1 (levels - 1) (joined b.frames ++ d.0) tail = closes_frames 0 (levels - 1) b.frames d.0 tail b.each inner in
    let k : suc (levels - 1) ≡ levels = omega (arith, d.2) in
    subst (λ (l : ℕ). (s : Begins (IsFrameAt l) octets) × (s.1 ≡ tail)) k (closed_begins (levels - 1) octets b.tag b.head (joined b.frames ++ d.0) tail b.header b.spelled all)

-- ---- where the octets begin with a frame, the elements that are open close

-- a frame apart from the end of contents does not begin as it
frame_apart : {P : Type 0} (room : ℕ) (f x y : List ℕ) → Inner room f → f ++ x ≡ end_of_contents ++ y → P
frame_apart zero f x y i e = extent-none f i.0.1 i.0.0 i.0.2
frame_apart (suc k) f x y i e =
    elim (extent-cases k f i.0.1 i.0.0 i.0.2) [
      | inl d ↦ absurd (i.1 (d.spelled ∙ is_end d.head i.0.1 x y i.0.0 d.header (ap (λ o. o ++ x) (sym d.spelled) ∙ e)))
      | inr d ↦
          absurd (head_apart d.head i.0.0 ((i.0.1 ++ end_of_contents) ++ x) y d.header (sym (append_assoc d.head (i.0.1 ++ end_of_contents) x) ∙ ap (λ o. o ++ x) (sym (append_assoc d.head i.0.1 end_of_contents) ∙ sym d.spelled) ∙ e))
    ]

unframed : (o room : ℕ) (f x after tail : List ℕ) (fs : List (List ℕ)) → Inner room f → AllByRecursion (Inner room) fs → f ++ x ≡ joined fs ++ (end_of_contents ++ after) → Closes o (suc room) after tail → Closes (suc o) room x tail
unframed o room f x after tail [] i each e c = frame_apart room f x after i e
unframed o room f x after tail (g ∷ fs) i each e c =
    let s : f ++ x ≡ g ++ (joined fs ++ (end_of_contents ++ after)) = e ∙ append_assoc g (joined fs) (end_of_contents ++ after) in
    let one = extent-one room i.0.0 each.0.0.0 f g i.0.1 each.0.0.1 x (joined fs ++ (end_of_contents ++ after)) i.0.2 each.0.0.2 s in
    record { frames = fs; after = after; each = each.1; spelled = one.2; behind = c }

unframes : (o room : ℕ) (fs : List (List ℕ)) (x tail : List ℕ) → AllByRecursion (Inner room) fs → Closes (suc o) room (joined fs ++ x) tail → Closes (suc o) room x tail
unframes o room [] x tail each c = c
unframes o room (f ∷ fs) x tail each c =
    unframes o room fs x tail each.1 (unframed o room f (joined fs ++ x) c.after tail c.frames each.0 c.each (sym (append_assoc f (joined fs) x) ∙ c.spelled) c.behind)

behind_head : (j levels : ℕ) (octets head inner tail : List ℕ) (t : Tag) → IsHeader head t None → octets ≡ head ++ inner → Peeled j levels octets tail → Closes (suc (suc j)) (levels - 1) inner tail
behind_head j levels octets head inner tail t h s (peel_end after e c) = absurd (head_apart head t inner after h (sym s ∙ e))
behind_head j levels octets head inner tail t h s (peel_whole k frame body after u room d apart e c) =
    let one = heads_one head d.head t u None (Some (length body)) inner (body ++ after) h d.header (sym s ∙ e ∙ ap (λ o. o ++ after) d.spelled ∙ append_assoc d.head body after) in
    none_some (length body) None refl one.1
behind_head j levels octets head inner tail t h s (peel_open k other after u room g e c) =
    let one = heads_one head other t u None None inner after h g (sym s ∙ e) in
    let less : k ≡ levels - 1 = omega (arith, room) in
    subst (λ (x : List ℕ). Closes (suc (suc j)) (levels - 1) x tail) (sym one.2) (subst (λ (n : ℕ). Closes (suc (suc j)) n after tail) less c)

closes_outward : (o j m levels : ℕ) (octets : List ℕ) (left : ℕ) (rest tail : List ℕ) → m ≡ suc j + o → IsDue o levels octets left rest → Closes (suc j) levels octets tail → Closes m left rest tail
closes_outward zero j m levels octets left rest tail e d c =
    let n : suc j ≡ m = omega (arith, e) in
    subst (λ (k : ℕ). Closes k left rest tail) n (subst (λ (k : ℕ). Closes (suc j) k rest tail) (sym d.0) (subst (λ (x : List ℕ). Closes (suc j) levels x tail) (sym d.1) c))
closes_outward (suc o) j m levels octets left rest tail e d c =
    let b = d.1 in
    let n : m ≡ suc (suc j) + o = omega (arith, e) in
    let all : Closes (suc (suc j)) (levels - 1) (joined b.frames ++ d.0) tail = behind_head j levels octets b.head (joined b.frames ++ d.0) tail b.tag b.header b.spelled (peel j levels octets tail c) in
    closes_outward o (suc j) m (levels - 1) d.0 left rest tail n d.3 (unframes (suc j) (levels - 1) b.frames d.0 tail b.each all)

-- behind an indefinite header that a frame begins with its contents close
frame_closes : (k : ℕ) (b : List ℕ) (t : Tag) (head body : List ℕ) → IsHeader head t None → b ≡ head ++ body → (s : Begins (IsFrameAt (suc k)) b) → Closes 1 k body s.1
frame_closes k b t head body h e s =
    let w : Whole b t None body = record { head = head; header = h; spelled = e } in
    let whole : Begins (IsFrameAt (suc k)) (b ++ []) = (s.0, s.1, s.2, append-nil b ∙ s.3) in
    elim (same_header k b [] t None body w whole) [
      | inl n ↦ none_some (length s.2.1) None refl n.0
      | inr n ↦ subst (λ (x : List ℕ). Closes 1 k x s.1) (sym n.2 ∙ append-nil body) (closes_of k s.0 s.2.1 s.1 s.2.0 n.0)
    ]

-- the same for any number of levels
frame_closes_at : (levels : ℕ) (b : List ℕ) (t : Tag) (head body : List ℕ) → IsHeader head t None → b ≡ head ++ body → 0 < levels → (s : Begins (IsFrameAt levels) b) → Closes 1 (levels - 1) body s.1
frame_closes_at zero b t head body h e some s = absurd (omega (arith, some))
frame_closes_at (suc k) b t head body h e some s =
    let n : k ≡ suc k - 1 = omega arith in
    subst (λ (l : ℕ). Closes 1 l body s.1) n (frame_closes k b t head body h e s)

-- the elements that are open close before what follows the frame
pub due_closes : (o levels : ℕ) (octets : List ℕ) (left : ℕ) (rest : List ℕ) → IsDue (suc o) levels octets left rest → (s : Begins (IsFrameAt levels) octets) → Closes (suc o) left rest s.1
due_closes o levels octets left rest d s =
    let b = d.1 in
    let all : Closes 1 (levels - 1) (joined b.frames ++ d.0) s.1 = frame_closes_at levels octets b.tag b.head (joined b.frames ++ d.0) b.header b.spelled d.2 s in
    closes_outward o 0 (suc o) (levels - 1) d.0 left rest s.1 (omega arith) d.3 (unframes 0 (levels - 1) b.frames d.0 s.1 b.each all)
