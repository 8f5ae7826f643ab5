-- Stages of the code and what is said of them as plain stages.
use Rattle.std.proofs.Common.{◌≡◌, ℕ, ◌+◌, List, length, Option, sym, refl, ap, ◌∙◌, subst, arith}
use Rattle.std.proofs.lemmas.List.{length-map, length-take}
use Rattle.sets.specs.declared.bounds.Bounds.{Bounds}
use Rattle.sets.specs.declared.shape.Shape.{Shape}
use Rattle.sets.specs.declared.span_list.SpanList.{SpanList}
use Rattle.stages.specs.declared.stage.Dep.{Dep}
use Rattle.stages.specs.declared.stage.Stage.{Stage}
use Rattle.stages.specs.declared.stage.Stage.TheVariants as kind
use Rattle.stages.specs.Made.{MadeList}
use Rattle.stages.specs.Plain.{plain, plain_rows}
use Rattle.stages.specs.Ranges.{all_fit}
use Rattle.stages.specs.Stages.{end_of, bounds_made, spans_after}

-- the channels of dependency rows are one more than the rows
pub rows_count : (d : Dep) → d.count ≡ length (plain_rows d) + 1
rows_count d = let h = d.some in let f = d.few in let l = d.full in simp (length-map, length-take) (omega arith)

-- the end of a stage, by the numbers that the code has
abbrev pub end_in : Stage → ℕ
end_in (kind.Lift l) = l.first + l.count
end_in (kind.Dep d) = d.first + d.count
end_in (kind.Rct r) = r.first + 3

plain_end : (v : Stage) → end_of (plain v) ≡ end_in v
unfolding plain
plain_end (kind.Lift l) = refl
plain_end (kind.Dep d) = ap (λ n. d.first + n) (sym (rows_count d))
plain_end (kind.Rct r) = refl

-- what is known of a variant, for the stage that is of it
module _ (s v : Stage) (is : s ≡ v) where
  pub end-of : end_of (plain s) ≡ end_in v
  end-of = ap (λ x. end_of (plain x)) is ∙ plain_end v

  pub made_by : (f : Shape) (bs : List Bounds) (r : Option SpanList) → MadeList r (all_fit (bounds_made f (plain v) bs)) (spans_after f (plain v) bs) → MadeList r (all_fit (bounds_made f (plain s) bs)) (spans_after f (plain s) bs)
  made_by f bs r h = subst (λ x. MadeList r (all_fit (bounds_made f (plain x) bs)) (spans_after f (plain x) bs)) (sym is) h
