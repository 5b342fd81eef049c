use Rattle.std.specs.Prelude.{◌≡◌, ℕ, List, Some, Result, Ok, Err, IsTrue}
use Rattle.vhdl_tree.specs.declared.units.DesignFile.{DesignFile}
use Rattle.sim_design.specs.declared.Design.{Design}
use Rattle.first_form.specs.declared.fault.FormError.{FormError}
use Rattle.first_form.specs.declared.fault.FormError.TheVariants.{NotBuilt, NoMemory}
use Rattle.first_form.specs.declared.form.Form.{Form}
use Rattle.first_form.specs.Form.{is_right, design_of}
use Rattle.first_form.specs.Reading.{form_in}

-- The tree of a text is of the first form, and the design is what it stands for: the form is that of the
-- tree, in the order of the production; its conditions hold; and the design is the form's.
pub record IsForm (text : List ℕ) (tree : DesignFile) (d : Design) : Type 0 where
  pub form : Form
  pub read : form_in text tree ≡ Some form
  pub right : IsTrue (is_right form)
  pub design : d ≡ design_of form

-- no design is that of the tree, unless it was memory that ran out
abbrev pub HasNoDesign : FormError → List ℕ → DesignFile → Type 0
HasNoDesign NoMemory text tree = Unit {0}
HasNoDesign NotBuilt text tree = (d : Design) → IsForm text tree d → ⊥

-- what was returned is the design of the tree
abbrev pub IsReading : Result Design FormError → List ℕ → DesignFile → Type 0
IsReading (Ok d) text tree = IsForm text tree d
IsReading (Err e) text tree = HasNoDesign e text tree

-- a tree stands for one design at most
abbrev pub OneDesign : Type 0
OneDesign = (text : List ℕ) (tree : DesignFile) (d e : Design) → IsForm text tree d → IsForm text tree e → d ≡ e
