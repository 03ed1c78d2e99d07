mod OpenBinders
mod BinderTags
mod BoundWalk
mod RowNodes
mod BoundRows
