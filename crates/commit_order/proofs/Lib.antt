mod ResultMaps
