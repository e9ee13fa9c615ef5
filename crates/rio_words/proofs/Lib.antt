pub mod WordRoads
