use native.Mathlib.Omega.{arith}
use Rattle.std.proofs.lemmas.Result.{err_from_is_err_and}
use Rattle.identifiers.proofs.NotingNodes.{left_stands, left_types, own_asks, node_stops, node_other, node_past, node_differs, node_named}
use Rattle.identifiers.proofs.note_node.Goals as goal

pub known_opening-head-requires : goal.known_opening-head-requires
known_opening-head-requires c = left_stands _ _ c.requires.0 c.requires.2

pub note_types-requires : goal.note_types-requires
note_types-requires c = (c.requires.1, left_types _ _ _ c.known_opening-head.ensures _ c.types.ensures c.requires.0 c.requires.2)

pub returns-in_err-p : goal.returns-in_err-p
returns-in_err-p c = let p = err_from_is_err_and c.from_residual.result c.from_residual.ensures.1 in rw (p.1, p.2)
    (node_stops _ _ _ c.known_opening-head.ensures _ c.types.ensures _ _ _ c.note_types.ensures c.in_err-p.field-0.0 c.in_err-p.was)

pub returns-else-head-eq-FREE_IDENT : goal.returns-else-head-eq-FREE_IDENT
returns-else-head-eq-FREE_IDENT c = node_other _ _ _ c.known_opening-head.ensures _ c.types.ensures _ _ _ c.note_types.ensures _ c.in_ok-p.was c.if-head-eq-FREE_IDENT.false

pub returns-then-table-head : goal.returns-then-table-head
returns-then-table-head c = node_past _ _ _ c.known_opening-head.ensures _ c.types.ensures _ _ _ c.note_types.ensures _ c.in_ok-p.was c.if-head-eq-FREE_IDENT.true (omega arith)

pub note_identifier-requires : goal.note_identifier-requires
note_identifier-requires c = let o = own_asks _ _ _ c.known_opening-head.ensures _ c.types.ensures _ _ _ c.note_types.ensures _ c.in_ok-p.was c.if-head-eq-FREE_IDENT.true
    c.requires.0 c.requires.1 c.requires.2 in (o.0, omega arith, o.1, o.2)

pub returns-then-not-note_identifier : goal.returns-then-not-note_identifier
returns-then-not-note_identifier c = node_differs _ _ _ c.known_opening-head.ensures _ c.types.ensures _ _ _ c.note_types.ensures _ c.in_ok-p.was c.if-head-eq-FREE_IDENT.true _ _
    c.note_identifier.ensures c.if-not-note_identifier.true

pub returns-else-not-note_identifier : goal.returns-else-not-note_identifier
returns-else-not-note_identifier c = node_named _ _ _ c.known_opening-head.ensures _ c.types.ensures _ _ _ c.note_types.ensures _ c.in_ok-p.was c.if-head-eq-FREE_IDENT.true _ _
    c.note_identifier.ensures c.if-not-note_identifier.false
