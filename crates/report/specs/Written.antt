-- What a call leaves on a page: its text behind what stands there, in the same lent output.
use Rattle.std.specs.Prelude.{◌≡◌, ℕ, List}
use Rattle.report.specs.Pasted.{Appended}
use Rattle.report.specs.declared.page.Page.{Page}

pub record Written (before : Page) (text : List ℕ) (after : Page) : Type 0 where
  pub same_output : after.out.ghost_name ≡ before.out.ghost_name
  pub appended : Appended before.out.now before.free text after.out.now after.free
