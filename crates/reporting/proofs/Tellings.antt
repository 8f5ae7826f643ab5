-- The lines of a report by their places.
use Rattle.std.proofs.Common.{◌≡◌, ℕ, zero, suc, ◌+◌, ◌*◌, ◌<◌, List, [], ◌∷◌, ◌++◌, length, get_or, take, Some, None, Ok, sym, refl, ap, ◌∙◌, subst, add-zero, suc-mul, zero-add, zero-mul, add-one, arith, length-append}
use Rattle.std.proofs.lemmas.List.{length-replicate}
use Rattle.std.proofs.lemmas.List.FromFn.{length-map-range_with_len}
use Rattle.std.proofs.lemmas.List.{get_or_append_left, get_or-append-add}
use Rattle.sets.specs.declared.bounds.Bounds.{Bounds}
use Rattle.sets.specs.declared.refusal.Refusal.{Refusal}
use Rattle.sets.specs.declared.shape.Shape.{Shape}
use Rattle.stages.specs.declared.stage.Axis.{Axis}
use Rattle.stages.specs.declared.stage.Axis.TheVariants.{Time, Channel}
use Rattle.stages.specs.Lifting.{lift_after}
use Rattle.stages.specs.Plain.{Plain, PlainLift, PlainStep, lift, dep, rct}
use Rattle.stages.specs.Ranges.{at}
use Rattle.stages.specs.Stages.{spans_after, spans_refused}
use Rattle.recipe.specs.Requests.{PlainRequest}
use Rattle.reporting.specs.declared.line.Line.{Line}
use Rattle.reporting.specs.declared.line.Line.TheVariants.{Span, Refused}
use Rattle.reporting.specs.Laws.{Leads, stay, go, Tells, ReportLaws, start}
use Rattle.reporting.specs.Lines.{channel_lines, stage_lines, request_lines, report_lines}

-- a stage keeps the number of spans
length-lift : (f : Shape) (l : PlainLift) (ss : List PlainStep) (bs : List Bounds) (a : Axis) → l.axis ≡ a → length (lift_after f l ss bs) ≡ length bs
length-lift f l ss bs Time e = rw e (length-map-range_with_len _ 0 (length bs))
length-lift f l ss bs Channel e = rw e (length-map-range_with_len _ 0 (length bs))

length-after : (f : Shape) (s : Plain) (bs : List Bounds) → length (spans_after f s bs) ≡ length bs
length-after f (lift l ss) bs = length-lift f l ss bs l.axis refl
length-after f (dep n rows) bs = length-map-range_with_len _ 0 (length bs)
length-after f (rct n) bs = length-map-range_with_len _ 0 (length bs)

length-channel_lines : (k c : ℕ) (bs : List Bounds) → length (channel_lines k c bs) ≡ length bs
unfolding channel_lines
length-channel_lines k c [] = refl
length-channel_lines k c (b ∷ bs) = ap suc (length-channel_lines k (c + 1) bs)

get_or-channel_lines : (k c i : ℕ) (bs : List Bounds) (d : Line) → i < length bs → get_or (channel_lines k c bs) i d ≡ Span k (c + i) (at bs i).least (at bs i).greatest
unfolding channel_lines
get_or-channel_lines k c i [] d h = absurd (omega arith)
get_or-channel_lines k c zero (b ∷ bs) d h = ap (λ n. Span k n b.least b.greatest) (sym (add-zero c))
get_or-channel_lines k c (suc i) (b ∷ bs) d h = get_or-channel_lines k (c + 1) i bs d (omega arith) ∙ ap (λ n. Span k n (at bs i).least (at bs i).greatest) (omega arith)

-- the lines from a stage that is not refused, and from one that is
lines_on : (f : Shape) (j : ℕ) (s : Plain) (ss : List Plain) (bs : List Bounds) → spans_refused f s bs ≡ None → stage_lines f j (s ∷ ss) bs ≡ channel_lines j 0 (spans_after f s bs) ++ stage_lines f (j + 1) ss (spans_after f s bs)
unfolding stage_lines
lines_on f j s ss bs n = ap (λ o. elim o [ None ↦ channel_lines j 0 (spans_after f s bs) ++ stage_lines f (j + 1) ss (spans_after f s bs) | Some e ↦ Refused j e ∷ [] ]) n

lines_stop : (f : Shape) (j : ℕ) (s : Plain) (ss : List Plain) (bs : List Bounds) (e : Refusal) → spans_refused f s bs ≡ Some e → stage_lines f j (s ∷ ss) bs ≡ Refused j e ∷ []
unfolding stage_lines
lines_stop f j s ss bs e n = ap (λ o. elim o [ None ↦ channel_lines j 0 (spans_after f s bs) ++ stage_lines f (j + 1) ss (spans_after f s bs) | Some r ↦ Refused j r ∷ [] ]) n

module _ (f : Shape) (n : ℕ) where
  -- behind the lines of a stage that is not refused come those of the next
  past : (j i : ℕ) (s : Plain) (ss : List Plain) (bs : List Bounds) (d : Line) → length bs ≡ n → spans_refused f s bs ≡ None → get_or (stage_lines f j (s ∷ ss) bs) (n + i) d ≡ get_or (stage_lines f (j + 1) ss (spans_after f s bs)) i d
  past j i s ss bs d long r =
      let size : length (channel_lines j 0 (spans_after f s bs)) ≡ n = length-channel_lines j 0 (spans_after f s bs) ∙ length-after f s bs ∙ long in
      ap (λ l. get_or l (n + i) d) (lines_on f j s ss bs r)
      ∙ ap (λ m. get_or (channel_lines j 0 (spans_after f s bs) ++ stage_lines f (j + 1) ss (spans_after f s bs)) (m + i) d) (sym size)
      ∙ get_or-append-add (channel_lines j 0 (spans_after f s bs)) (stage_lines f (j + 1) ss (spans_after f s bs)) i d

  length-on : (j : ℕ) (s : Plain) (ss : List Plain) (bs : List Bounds) → length bs ≡ n → spans_refused f s bs ≡ None → length (stage_lines f j (s ∷ ss) bs) ≡ n + length (stage_lines f (j + 1) ss (spans_after f s bs))
  length-on j s ss bs long r =
      ap length (lines_on f j s ss bs r) ∙ length-append (channel_lines j 0 (spans_after f s bs)) _
      ∙ ap (λ m. m + length (stage_lines f (j + 1) ss (spans_after f s bs))) (length-channel_lines j 0 (spans_after f s bs) ∙ length-after f s bs ∙ long)

  spans_at : (j k c : ℕ) (ss : List Plain) (bs cs : List Bounds) (d : Line) → length bs ≡ n → k < length ss → c < n → Leads f (take (suc k) ss) bs cs → get_or (stage_lines f j ss bs) (k * n + c) d ≡ Span (j + k) c (at cs c).least (at cs c).greatest
  spans_at j k c [] bs cs d long h g l = absurd (omega arith)
  spans_at j zero c (s ∷ ss) bs cs d long h g (go r stay) =
      let size = length-after f s bs ∙ long in
      let z : zero * n + c ≡ c = omega (arith, zero-mul n) in
      let same : 0 + c ≡ c = omega arith in
      ap (λ i. get_or (stage_lines f j (s ∷ ss) bs) i d) z
      ∙ ap (λ l. get_or l c d) (lines_on f j s ss bs r)
      ∙ get_or_append_left (channel_lines j 0 (spans_after f s bs)) (stage_lines f (j + 1) ss (spans_after f s bs)) d c (omega (arith, length-channel_lines j 0 (spans_after f s bs)))
      ∙ get_or-channel_lines j 0 c (spans_after f s bs) d (omega arith)
      ∙ (λ i. Span (sym (add-zero j) i) (same i) (at cs c).least (at cs c).greatest)
  spans_at j (suc k) c (s ∷ ss) bs cs d long h g (go r l) =
      let z : suc k * n + c ≡ n + (k * n + c) = omega (arith, suc-mul k n) in
      let m : j + 1 + k ≡ j + suc k = omega arith in
      ap (λ i. get_or (stage_lines f j (s ∷ ss) bs) i d) z
      ∙ past j (k * n + c) s ss bs d long r
      ∙ spans_at (j + 1) k c ss (spans_after f s bs) cs d (length-after f s bs ∙ long) (omega arith) g l
      ∙ ap (λ i. Span i c (at cs c).least (at cs c).greatest) m

  ends_at : (j k : ℕ) (ss : List Plain) (bs cs : List Bounds) (s : Plain) (e : Refusal) (d : Line) → length bs ≡ n → k < length ss → s ≡ get_or ss k s → Leads f (take k ss) bs cs → spans_refused f s cs ≡ Some e → (get_or (stage_lines f j ss bs) (k * n) d ≡ Refused (j + k) e) × (length (stage_lines f j ss bs) ≡ k * n + 1)
  ends_at j k [] bs cs s e d long h at l r = absurd (omega arith)
  ends_at j zero (t ∷ ss) bs cs s e d long h at stay r =
      let stop = lines_stop f j t ss bs e (subst (λ x. spans_refused f x bs ≡ Some e) at r) in
      let z : zero * n ≡ 0 = zero-mul n in (
        ap (λ i. get_or (stage_lines f j (t ∷ ss) bs) i d) z ∙ ap (λ l. get_or l 0 d) stop ∙ ap (λ i. Refused i e) (sym (add-zero j)),
        ap length stop ∙ omega (arith, z),
      )
  ends_at j (suc k) (t ∷ ss) bs cs s e d long h at (go q l) r =
      let rest = ends_at (j + 1) k ss (spans_after f t bs) cs s e d (length-after f t bs ∙ long) (omega arith) at l r in
      let z : suc k * n ≡ n + k * n = omega (arith, suc-mul k n) in
      let m : j + 1 + k ≡ j + suc k = omega arith in (
        ap (λ i. get_or (stage_lines f j (t ∷ ss) bs) i d) z ∙ past j (k * n) t ss bs d long q ∙ rest.0 ∙ ap (λ i. Refused i e) m,
        omega (arith, length-on j t ss bs long q, rest.1, z),
      )

  length-all : (j : ℕ) (ss : List Plain) (bs cs : List Bounds) → length bs ≡ n → Leads f ss bs cs → length (stage_lines f j ss bs) ≡ length ss * n
  unfolding stage_lines
  length-all j [] bs cs long stay = sym (zero-mul n)
  length-all j (s ∷ ss) bs cs long (go r l) = length-on j s ss bs long r ∙ omega (arith, length-all (j + 1) ss (spans_after f s bs) cs (length-after f s bs ∙ long) l, suc-mul (length ss) n)

tells : (q : PlainRequest) → Tells q (request_lines (Ok q))
tells q =
    let n = q.shape.channels in
    let long : length (start q) ≡ n = length-replicate n q.span in
    record {
      spans = λ k c cs d h g l. spans_at q.shape n 0 k c q.stages (start q) cs d long h g (subst (λ i. Leads q.shape (take i q.stages) (start q) cs) (add-one k) l) ∙ ap (λ i. Span i c (at cs c).least (at cs c).greatest) (zero-add k);
      ends = λ k cs s e d h a l r. let z = ends_at q.shape n 0 k q.stages (start q) cs s e d long h a l r in (z.0 ∙ ap (λ i. Refused i e) (zero-add k), z.1);
      whole = λ cs l. length-all q.shape n 0 q.stages (start q) cs long l;
    }

pub report_laws : ReportLaws
unfolding report_lines
report_laws text q e = subst (λ o. Tells q (request_lines o)) (sym e) (tells q)
