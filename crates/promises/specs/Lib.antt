-- The customer's sentences as statements over the public definitions: in Promises a record for each demand and each request, whose parameters are what its
-- sentences speak of; in Demands, Requests and Recorders one whose fields hold of all of these.
pub mod Promises
pub mod Terms
pub mod Demands
pub mod Requests
pub mod Recorders
