-- A bank of stages that each keep the laws is lawful.
use Rattle.std.proofs.Common.{◌≡◌, ℕ, ◌≤◌, Bool, true, false, cond, List, length, Some, None, subst}
use Rattle.std.proofs.lemmas.Option.{cond_some}
use Rattle.sets.specs.declared.bounds.Bounds.{Bounds}
use Rattle.sets.specs.declared.shape.Shape.{Shape}
use Rattle.sets.specs.Areas.{Within}
use Rattle.sets.specs.Sets.{in_limits}
use Rattle.stages.specs.Plain.{Plain}
use Rattle.stages.specs.Stages.{fits_in}
use Rattle.rack.specs.Laws.{SameSpans, SameWidth, Contained, Apart, Local, Lawful}
use Rattle.rack.specs.Meanings.{Suits, unlisted}
use Rattle.rules.specs.Samples.{samples_after, bank, StageLaws}

same_width : (f : Shape) (p : ℕ → Bool) (t u : Bool) (bs cs : List Bounds) → t ≡ u → SameSpans f p bs cs → SameWidth f p (cond t (Some bs) None) (cond u (Some cs) None)
same_width f p t u bs cs e s = subst (λ v. SameWidth f p (cond t (Some bs) None) (cond v (Some cs) None)) e (alike t)
  where
    alike : (t : Bool) → SameWidth f p (cond t (Some bs) None) (cond t (Some cs) None)
    alike true = s
    alike false = tt

module _ (n : ℕ) (p : ℕ → ℕ → Plain) (few : n ≤ 1000) (laws : (f : Shape) (s : Plain) → in_limits f ≡ true → fits_in s f.channels ≡ true → StageLaws f s) where
  -- the laws of a stage that can be asked for, and the spans that it makes
  law : (f : Shape) (k : ℕ) → Suits (bank n p) f k → StageLaws f (p f.channels k)
  law f k s = laws f (p f.channels k) s.shape s.fit

  bank-contained : Contained (bank n p)
  bank-contained = record {
    few = few;
    many = λ f k bs cs r. subst (λ ds. length ds ≡ f.channels) (cond_some _ _ cs r.makes).1 ((law f k r.suits).many bs r.many);
    inside = λ f k bs cs xs r w. subst (λ ds. Within f ds (samples_after f (p f.channels k) xs)) (cond_some _ _ cs r.makes).1 ((law f k r.suits).inside bs xs r.many w);
  }

  bank-apart : Apart (bank n p)
  bank-apart f k bs cs xs ys r v w e = (law f k r.suits).apart xs ys v.long w.long e

  bank-local : Local (bank n p)
  bank-local = record {
    keeps_spans = λ f k bs cs r. subst (λ ds. SameSpans f (unlisted (bank n p) f k) bs ds) (cond_some _ _ cs r.makes).1 ((law f k r.suits).keeps_spans bs r.many);
    keeps_samples = λ f k bs cs xs r w. (law f k r.suits).keeps_samples xs w.long;
    local_spans = λ f k bs ds s l m e. same_width f _ _ _ _ _ ((law f k s).local_width bs ds l m e) ((law f k s).local_spans bs ds l m e);
    local_samples = λ f k bs cs ds es xs ys r q v w e. (law f k r.suits).local_samples xs ys v.long w.long e;
  }

  pub bank-lawful : Lawful (bank n p)
  bank-lawful = record { contained = bank-contained; apart = bank-apart; local = bank-local }
