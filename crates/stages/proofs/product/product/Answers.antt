use Rattle.std.proofs.Common.{rules, refl}
use Rattle.stages.proofs.Products.{product_small, product_back}
use Rattle.stages.proofs.product.product.Goals as goal

pub returns : goal.returns
returns c = let s = product_small c.args.a c.args.b (search rules) (search rules) in rw (c.from.ensures, c.from-2.ensures, product_back c.args.a c.args.b (search rules) (search rules)) (record { value = refl; low = s.1; high = s.0 })
