use Rattle.std.proofs.Common.{◌≡◌, refl}
use Rattle.sim_logic.specs.declared.Logic9.{Logic9}
use Rattle.sim_logic.specs.declared.Logic9.TheVariants.{U, X, Zero, One, Z, W, L, H, Dash}
use Rattle.sim_logic.specs.Logic.{resolution}

-- a fold of two values from 'Z' is the table at both: 'Z' changes '-' alone, and '-' acts as 'X'
pub from_z : (a b : Logic9) → resolution (resolution Z a) b ≡ resolution a b
from_z U b = refl
from_z X b = refl
from_z Zero b = refl
from_z One b = refl
from_z Z b = refl
from_z W b = refl
from_z L b = refl
from_z H b = refl
from_z Dash U = refl
from_z Dash X = refl
from_z Dash Zero = refl
from_z Dash One = refl
from_z Dash Z = refl
from_z Dash W = refl
from_z Dash L = refl
from_z Dash H = refl
from_z Dash Dash = refl
