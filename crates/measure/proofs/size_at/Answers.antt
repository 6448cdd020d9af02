use mathlib.Core.Path.{refl}
use Rattle.sizes.specs.Sizes.{size_at}
use Rattle.measure.proofs.size_at.Goals as goal

-- src/lib.rt:126:22

-- src/lib.rt:126:16

-- src/lib.rt:126:16

-- src/lib.rt:127:24

-- src/lib.rt:127:24

-- src/lib.rt:127:18

-- src/lib.rt:127:18

-- src/lib.rt:128:22

-- src/lib.rt:128:22

-- src/lib.rt:128:16

-- src/lib.rt:128:16

-- src/lib.rt:129:24

-- src/lib.rt:129:24

-- src/lib.rt:129:18

-- src/lib.rt:129:18

-- src/lib.rt:121:1

pub returns : goal.returns
unfolding size_at
returns c = refl
