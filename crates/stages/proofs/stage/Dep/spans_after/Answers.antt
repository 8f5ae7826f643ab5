use Rattle.std.proofs.Common.{◌≡◌, ℕ, suc, ◌+◌, ◌-◌, Bool, true, cond, ◌&&◌, leb, ltb, map, length, sym, ◌∙◌, subst, arith, rules}
use Rattle.std.specs.List.{range_with_len}
use Rattle.sets.specs.Sets.{rows_of}
use Rattle.stages.specs.Channels.{row_after, taken, dep_at}
use Rattle.stages.specs.Made.{MadeList, every}
use Rattle.stages.specs.Plain.{plain_rows}
use Rattle.stages.specs.Ranges.{fits, all_fit}
use Rattle.stages.proofs.Every.{all_fit_map, every-within, every-shift}
use Rattle.stages.proofs.Gathers.{gathered_list}
use Rattle.stages.proofs.Plains.{rows_count}
use Rattle.stages.proofs.stage.Dep.spans_after.Goals as goal

pub returns : goal.returns
returns c =
    let d = c.args.self.now in
    let rows = plain_rows d in
    let bs = rows_of c.args.spans.now in
    let count : d.count ≡ length rows + 1 = rows_count d in
    let row : ℕ → Bool = λ i. fits (row_after rows (taken d.first d.count bs) i) in
    let after : suc d.first ≡ d.first + 1 = omega arith in
    let end : d.first + d.count ≡ d.first + 1 + length rows = omega arith in
    let made = gathered_list _ _ _ c.gathered.ensures (λ c. cond (ltb d.first c && ltb c (d.first + d.count)) (row (c - d.first)) true) (dep_at d.first d.count rows bs) (λ i h o r. search rules) _ _ c.len.ensures
    ((λ i. every (λ c. cond (leb (after i) c && ltb c (end i)) (row (c - d.first)) true) (range_with_len 0 (length bs)))
    ∙ every-within (λ c. row (c - d.first)) (length bs) (d.first + 1) (length rows) (omega arith)
    ∙ every-shift row d.first 1 (length rows)
    ∙ sym (all_fit_map (row_after rows (taken d.first d.count bs)) (range_with_len 1 (length rows)))) in
    subst (λ n. MadeList c.gathered.result (all_fit (map (row_after rows (taken d.first n bs)) (range_with_len 1 (length rows)))) (map (dep_at d.first n rows bs) (range_with_len 0 (length bs)))) count made
