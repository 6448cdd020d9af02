use mathlib.Core.Path.{refl}
use Rattle.sizes.specs.Sizes.{with_size}
use Rattle.measure.proofs.put_size.Goals as goal

-- src/lib.rt:145:11

-- src/lib.rt:145:5

-- src/lib.rt:145:5

-- src/lib.rt:146:11

-- src/lib.rt:146:11

-- src/lib.rt:146:5

-- src/lib.rt:146:5

-- src/lib.rt:147:24

-- src/lib.rt:147:11

-- src/lib.rt:147:11

-- src/lib.rt:147:5

-- src/lib.rt:147:5

-- src/lib.rt:148:24

-- src/lib.rt:148:11

-- src/lib.rt:148:11

-- src/lib.rt:148:5

-- src/lib.rt:148:5

-- src/lib.rt:141:1

pub returns : goal.returns
unfolding with_size
returns c = refl
