-- What reading an element's extent gives is what the octets begin with, and each fault comes where it is due.
use Rattle.std.proofs.Common.{◌≡◌, ◌∙◌, ◌≢◌, ◌⊎◌, ℕ, ◌-◌, ◌<◌, suc, inl, inr, List, [], ◌++◌, length, take, drop, Option, Some, None, Result, Ok, Err, sym, ap, subst, append_assoc, arith, refl}
use Rattle.std.specs.Prelude.{replicate}
use Rattle.std.proofs.lemmas.Bool.{cases_lt, lt-ltb, le-ltb}
use Rattle.std.proofs.lemmas.List.{length-append, append-nil, take-append-drop, length-take-le, length-replicate, take_at}
use Rattle.z_ber.specs.declared.fault.BerFault.{BerFault}
use Rattle.z_ber.specs.declared.fault.BerFault.TheVariants.{Short, BadTag, BadLength, TooLarge, TooDeep}
use Rattle.z_ber.specs.declared.tag.Tag.{Tag}
use Rattle.z_ber.specs.Written.{tag_octets}
use Rattle.z_ber.specs.Header.{IsHeader, Begins, Opens, IsSomeHeader, IsIdentifier}
use Rattle.z_ber.specs.Element.{end_of_contents}
use Rattle.z_ber.specs.Frames.{IsDefinite, IsExtent, IsFrameAt, IsExtentRead}
use Rattle.z_ber.specs.Reading.{header_at, close_at, inside_at, extent_behind, extent_at}
use Rattle.z_ber.proofs.TagReading.{IsBytes}
use Rattle.z_ber.proofs.HeaderReading.{HeaderParts, HeaderRead, Whole, header_at-again, header_at-read, not_begun}
use Rattle.z_ber.proofs.FrameReading.{ok_is, some_is}
use Rattle.z_ber.proofs.StepReading.{header-completes}
use Rattle.z_ber.proofs.TreeLaws.{none_some}
use Rattle.z_ber.proofs.CloseReading.{Indefinite, extent-definite, extent-indefinite, extent-cases, Closes, joined, ok_err, bytes_of, close_at-sound, close_at-complete, close_at-none}
use Rattle.z_ber.proofs.LeastReading.{close_at-opening}

-- ---- the header of a frame

abbrev pub framed_some : (k : ℕ) (f x b : List ℕ) (t : Tag) → IsExtent (suc k) f t b → (head : List ℕ) × (l : Option ℕ) × (rest : List ℕ) × IsHeader head t l × (f ++ x ≡ head ++ rest)
framed_some k f x b t e =
    elim (extent-cases k f b t e) [
      | inl d ↦ (d.head, Some (length b), b ++ x, d.header, ap (λ o. o ++ x) d.spelled ∙ append_assoc d.head b x)
      | inr d ↦ (d.head, None, b ++ (end_of_contents ++ x), d.header, ap (λ o. o ++ x) d.spelled ∙ append_assoc (d.head ++ b) end_of_contents x ∙ append_assoc d.head b (end_of_contents ++ x))
    ]

headed : (k : ℕ) (b : List ℕ) → Begins (IsFrameAt (suc k)) b → Begins IsSomeHeader b
headed k b s =
    let h = framed_some k s.0 s.1 s.2.1 s.2.0 s.2.2 in
    (h.0, h.2, (s.2.0, h.1, h.3), s.3 ∙ h.4)

pub identified : (b : List ℕ) → Begins IsSomeHeader b → Begins IsIdentifier b
identified b s =
    let q = s.2.2 in
    (tag_octets s.2.0, q.ends ++ s.1, (s.2.0, q.valid, refl), s.3 ∙ ap (λ f. f ++ s.1) q.spelled ∙ append_assoc (tag_octets s.2.0) q.ends s.1)

-- a frame that goes on behind a whole header has that header
pub same_header : (k : ℕ) (b more : List ℕ) (t : Tag) (l : Option ℕ) (body : List ℕ) → Whole b t l body → (s : Begins (IsFrameAt (suc k)) (b ++ more)) → ((l ≡ Some (length s.2.1)) × (body ++ more ≡ s.2.1 ++ s.1)) ⊎ ((d : Indefinite k s.0 s.2.0 s.2.1) × (l ≡ None) × (body ++ more ≡ s.2.1 ++ (end_of_contents ++ s.1)))
same_header k b more t l body w s =
    let here : header_at (b ++ more) ≡ Ok (t, l, body ++ more) = ap header_at (ap (λ o. o ++ more) w.spelled ∙ append_assoc w.head body more) ∙ header_at-again w.head t l (body ++ more) w.header in
    elim (extent-cases k s.0 s.2.1 s.2.0 s.2.2) [
      | inl d ↦
          let there : header_at (b ++ more) ≡ Ok (s.2.0, Some (length s.2.1), s.2.1 ++ s.1) =
          ap header_at (s.3 ∙ ap (λ o. o ++ s.1) d.spelled ∙ append_assoc d.head s.2.1 s.1) ∙ header_at-again d.head s.2.0 (Some (length s.2.1)) (s.2.1 ++ s.1) d.header
          in
          let one = ok_is {A = HeaderParts} (header_at (b ++ more)) _ _ here there in
          inl (ap (λ (p : HeaderParts). p.1) one, ap (λ (p : HeaderParts). p.2) one)
      | inr d ↦
          let there : header_at (b ++ more) ≡ Ok (s.2.0, None, s.2.1 ++ (end_of_contents ++ s.1)) =
          ap header_at (s.3 ∙ ap (λ o. o ++ s.1) d.spelled ∙ append_assoc (d.head ++ s.2.1) end_of_contents s.1 ∙ append_assoc d.head s.2.1 (end_of_contents ++ s.1)) ∙ header_at-again d.head s.2.0 None (s.2.1 ++ (end_of_contents ++ s.1)) d.header
          in
          let one = ok_is {A = HeaderParts} (header_at (b ++ more)) _ _ here there in
          inr (d, ap (λ (p : HeaderParts). p.1) one, ap (λ (p : HeaderParts). p.2) one)
    ]

-- ---- an element of definite length

definite_read : (k : ℕ) (b : List ℕ) (t : Tag) (len : ℕ) (body : List ℕ) → Whole b t (Some len) body → IsExtentRead (suc k) b (extent_behind k (Ok (t, Some len, body)))
definite_read k b t len body w =
    elim (cases_lt (length body) len) [
      | inl short ↦
          let zeros : List ℕ = replicate (len - length body) 0 in
          let n : length (body ++ zeros) ≡ len = omega (arith, length-append body zeros, length-replicate {A = ℕ} (len - length body) 0) in
          let s : b ++ zeros ≡ w.head ++ (body ++ zeros) = ap (λ o. o ++ zeros) w.spelled ∙ append_assoc w.head body zeros in
          let d : IsDefinite (b ++ zeros) t (body ++ zeros) = record { head = w.head; header = subst (λ (j : ℕ). IsHeader w.head t (Some j)) (sym n) w.header; spelled = s } in
          let wanting : Begins (IsFrameAt (suc k)) b → ⊥ = λ s. closed k b t len body w short s in
          rw (lt-ltb (length body) len short) (wanting, (zeros, (b ++ zeros, [], (t, body ++ zeros, extent-definite k (b ++ zeros) (body ++ zeros) t d), sym (append-nil (b ++ zeros)))))
      | inr come ↦
          let n : length (take len body) ≡ len = length-take-le len body come in
          let d : IsDefinite (w.head ++ take len body) t (take len body) = record { head = w.head; header = subst (λ (j : ℕ). IsHeader w.head t (Some j)) (sym n) w.header; spelled = refl } in
          rw (le-ltb (length body) len come) (record {
            frame = w.head ++ take len body;
            extent = extent-definite k (w.head ++ take len body) (take len body) t d;
            spelled = w.spelled ∙ ap (λ o. w.head ++ o) (sym (take-append-drop len body)) ∙ sym (append_assoc w.head (take len body) (drop len body));
          })
    ]
  where
    closed : (k : ℕ) (b : List ℕ) (t : Tag) (len : ℕ) (body : List ℕ) → Whole b t (Some len) body → length body < len → Begins (IsFrameAt (suc k)) b → ⊥
    closed k b t len body w short s =
        let whole : Begins (IsFrameAt (suc k)) (b ++ []) = (s.0, s.1, s.2, append-nil b ∙ s.3) in
        elim (same_header k b [] t (Some len) body w whole) [
          | inl h ↦
              let n : len ≡ length s.2.1 = some_is len (length s.2.1) (Some len) refl h.0 in
              omega (arith, n, short, ap length (sym (append-nil body) ∙ h.1), length-append s.2.1 s.1)
          | inr h ↦ none_some len (Some len) h.1 refl
        ]

-- ---- an element of indefinite length

pub closes_of : (k : ℕ) (f body x : List ℕ) (t : Tag) (d : Indefinite k f t body) → Closes 1 k (body ++ (end_of_contents ++ x)) x
closes_of k f body x t d = record { frames = d.frames; after = x; each = d.each; spelled = ap (λ o. o ++ (end_of_contents ++ x)) d.inside; behind = refl }

none_inside : (k : ℕ) (b : List ℕ) (t : Tag) (body : List ℕ) (e : BerFault) → IsBytes b → Whole b t None body → e ≢ Short → close_at (suc (length body)) 1 k body ≡ Err e → ¬ Opens (IsFrameAt (suc k)) b
none_inside k b t body e fits w long p = λ o.
    let s = o.1 in
    elim (same_header k b o.0 t None body w s) [
      | inl h ↦ none_some (length s.2.1) None refl h.0
      | inr h ↦
          let c : Closes 1 k (body ++ o.0) s.1 = subst (λ (x : List ℕ). Closes 1 k x s.1) (sym h.2) (closes_of k s.0 s.2.1 s.1 s.2.0 h.0) in
          close_at-none (suc (length body)) 1 k body e long (bytes_of b w.head body fits w.spelled) p o.0 s.1 c
    ]

-- behind its header an element that closes is a frame
pub closes_begins : (k : ℕ) (b more rest : List ℕ) (t : Tag) (body : List ℕ) → Whole b t None body → Closes 1 k (body ++ more) rest → (s : Begins (IsFrameAt (suc k)) (b ++ more)) × (s.1 ≡ rest)
closes_begins k b more rest t body w c =
    let d : Indefinite k ((w.head ++ joined c.frames) ++ end_of_contents) t (joined c.frames) = record { head = w.head; header = w.header; frames = c.frames; each = c.each; inside = refl; spelled = refl } in
    let s : b ++ more ≡ ((w.head ++ joined c.frames) ++ end_of_contents) ++ rest =
    ap (λ o. o ++ more) w.spelled ∙ append_assoc w.head body more ∙ ap (λ o. w.head ++ o) (c.spelled ∙ ap (λ o. joined c.frames ++ (end_of_contents ++ o)) c.behind) ∙ regroup w.head (joined c.frames) end_of_contents rest
    in
    (((w.head ++ joined c.frames) ++ end_of_contents, rest, (t, joined c.frames, extent-indefinite k _ _ t d), s), refl)
  where
    regroup : (a b c d : List ℕ) → a ++ (b ++ (c ++ d)) ≡ ((a ++ b) ++ c) ++ d
    regroup a b c d = sym (append_assoc (a ++ b) c d ∙ append_assoc a b (c ++ d))

pub inside_read : (k : ℕ) (b : List ℕ) (t : Tag) (body : List ℕ) → IsBytes b → (w : Whole b t None body) → (r : Result (List ℕ) BerFault) → close_at (suc (length body)) 1 k body ≡ r → IsExtentRead (suc k) b (inside_at t body r)
inside_read k b t body fits w (Ok rest) e =
    let c = close_at-sound (suc (length body)) rest 1 k body (bytes_of b w.head body fits w.spelled) e in
    let parts : body ≡ joined c.frames ++ (end_of_contents ++ rest) = c.spelled ∙ ap (λ o. joined c.frames ++ (end_of_contents ++ o)) c.behind in
    let n : length body - length rest - 2 ≡ length (joined c.frames) = omega (arith, ap length parts, length-append (joined c.frames) (end_of_contents ++ rest), length-append end_of_contents rest) in
    let front : take (length body - length rest - 2) body ≡ joined c.frames = ap (λ j. take j body) n ∙ ap (take (length (joined c.frames))) parts ∙ take_at (joined c.frames) (end_of_contents ++ rest) (length (joined c.frames)) refl in
    let d : Indefinite k ((w.head ++ joined c.frames) ++ end_of_contents) t (joined c.frames) = record { head = w.head; header = w.header; frames = c.frames; each = c.each; inside = refl; spelled = refl } in
    record {
      frame = (w.head ++ joined c.frames) ++ end_of_contents;
      extent = subst (λ (i : List ℕ). IsExtent (suc k) ((w.head ++ joined c.frames) ++ end_of_contents) t i) (sym front) (extent-indefinite k _ _ t d);
      spelled = w.spelled ∙ ap (λ o. w.head ++ o) parts ∙ regroup w.head (joined c.frames) end_of_contents rest;
    }
  where
    regroup : (a b c d : List ℕ) → a ++ (b ++ (c ++ d)) ≡ ((a ++ b) ++ c) ++ d
    regroup a b c d = sym (append_assoc (a ++ b) c d ∙ append_assoc a b (c ++ d))
inside_read k b t body fits w (Err Short) e =
    let m = close_at-opening (suc (length body)) 1 k body (bytes_of b w.head body fits w.spelled) (omega arith) e in
    (λ s. closed k b t body w e s, (m.0, (closes_begins k b m.0 [] t body w m.1).0))
  where
    closed : (k : ℕ) (b : List ℕ) (t : Tag) (body : List ℕ) → Whole b t None body → close_at (suc (length body)) 1 k body ≡ Err Short → Begins (IsFrameAt (suc k)) b → ⊥
    closed k b t body w e s =
        let whole : Begins (IsFrameAt (suc k)) (b ++ []) = (s.0, s.1, s.2, append-nil b ∙ s.3) in
        elim (same_header k b [] t None body w whole) [
          | inl h ↦ none_some (length s.2.1) None refl h.0
          | inr h ↦
              let c : Closes 1 k body s.1 = subst (λ (o : List ℕ). Closes 1 k o s.1) (sym (sym (append-nil body) ∙ h.2)) (closes_of k s.0 s.2.1 s.1 s.2.0 h.0) in
              ok_err s.1 Short _ (close_at-complete (suc (length body)) s.1 1 k body c (omega arith)) e
        ]
inside_read k b t body fits w (Err BadTag) e = none_inside k b t body BadTag fits w (λ x. absurd cc) e
inside_read k b t body fits w (Err BadLength) e = none_inside k b t body BadLength fits w (λ x. absurd cc) e
inside_read k b t body fits w (Err (TooLarge n)) e = none_inside k b t body (TooLarge n) fits w (λ x. absurd cc) e
inside_read k b t body fits w (Err TooDeep) e = none_inside k b t body TooDeep fits w (λ x. absurd cc) e

extent_step : (k : ℕ) (b : List ℕ) → IsBytes b → (r : Result HeaderParts BerFault) → header_at b ≡ r → HeaderRead b r → IsExtentRead (suc k) b (extent_behind k r)
extent_step k b fits (Ok (t, None, body)) p w = inside_read k b t body fits w (close_at (suc (length body)) 1 k body) refl
extent_step k b fits (Ok (t, Some len, body)) p w = definite_read k b t len body w
extent_step k b fits (Err Short) p h =
    let c = header-completes b fits p in
    let zeros : List ℕ = replicate c.len 0 in
    let n : length (replicate {A = ℕ} c.len 0) ≡ c.len = length-replicate {A = ℕ} c.len 0 in
    let whole : List ℕ = b ++ (c.more ++ zeros) in
    let d : IsDefinite (b ++ (c.more ++ zeros)) c.tag zeros = record { head = b ++ c.more; header = subst (λ (j : ℕ). IsHeader (b ++ c.more) c.tag (Some j)) (sym n) c.header; spelled = sym (append_assoc b c.more zeros) } in
    (λ s. not_begun b Short p (headed k b s), (c.more ++ zeros, (whole, [], (c.tag, zeros, extent-definite k whole zeros c.tag d), sym (append-nil whole))))
extent_step k b fits (Err BadTag) p h = λ o. h (o.0, identified (b ++ o.0) (headed k (b ++ o.0) o.1))
extent_step k b fits (Err BadLength) p h = λ o. h.1 (o.0, headed k (b ++ o.0) o.1)
extent_step k b fits (Err (TooLarge n)) p h = absurd h
extent_step k b fits (Err TooDeep) p h = absurd h

-- each outcome of reading an extent is right
pub extent_at-read : (k : ℕ) (b : List ℕ) → IsBytes b → IsExtentRead (suc k) b (extent_at k b)
unfolding extent_at
extent_at-read k b fits = extent_step k b fits (header_at b) refl (header_at-read b fits)
