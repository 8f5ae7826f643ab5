-- What a call's answer tells of the first refusal, and what each test on the way to it tells.
use Rattle.std.proofs.Common.{◌≡◌, Bool, true, false, cond, List, Some, None, Ok, Err, Option, Result, is_some, arith}
use Rattle.std.specs.Prelude.{unwrap_or}
use Rattle.sets.specs.declared.bounds.Bounds.{Bounds}
use Rattle.sets.specs.declared.refusal.Refusal.{Refusal}
use Rattle.rack.specs.Calls.{unless, answered}

-- where there is no refusal each test has passed
pub unless-none : (b : Bool) (e : Refusal) (rest : Option Refusal) → unless b e rest ≡ None → (b ≡ true) × (rest ≡ None)
unless-none b e rest h = (grind arith, grind arith)

pub none_from_ok : (o : Option Refusal) → Ok tt ≡ answered o → o ≡ None
none_from_ok o h = grind arith

pub some_from_err : (o : Option Refusal) (e : Refusal) → Err e ≡ answered o → o ≡ Some e
some_from_err o e h = grind arith

-- a test that was answered with a refusal or without
pub true_from_ok : (b : Bool) (e : Refusal) → ◌≡◌ {A = Result Unit Refusal} (Ok tt) (cond b (Ok tt) (Err e)) → b ≡ true
true_from_ok b e h = grind arith

-- a rule on spans that makes some
pub some_from_made : (o : Option (List Bounds)) (bs : List Bounds) → is_some o ≡ true → o ≡ Some (unwrap_or o bs)
some_from_made o bs h = grind arith

pub none_from_not_made : (o : Option (List Bounds)) → is_some o ≡ false → o ≡ None
none_from_not_made o h = grind arith
