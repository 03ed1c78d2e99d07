mod Claims
mod NotedClaims
mod NotingTypes
mod NotingNodes
mod TreeNames
