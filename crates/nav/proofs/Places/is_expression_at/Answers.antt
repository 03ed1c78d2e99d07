use Rattle.nav.proofs.SamePlaces.{sort_done}
use Rattle.nav.proofs.Places.is_expression_at.Goals as goal

pub returns : goal.returns
returns c = sort_done _ _ c.form_of.ensures _ c.sort.ensures _ _ _ c.tag_at.ensures _ c.eq.ensures
